use Rattle.std.proofs.Common.{arith, refl, sym, ◌∙◌, inr}
use Rattle.pl_heads.proofs.Covered.{has_head, fields_within, framing_is, token_is}
use Rattle.pl_heads.proofs.framing.head_of.Goals as goal

pub returns-in-Err : goal.returns-in-Err
returns-in-Err c =
    let h = c.requires.covers in
    inr (
      h.0,
      has_head c.args.bytes.now c.args.headers.now c.args.spans c.requires.room c.requires.short
          c.requires.within h.0 h.1,
      framing_is c.args.bytes.now c.args.headers.now c.args.spans h.0 h.1 c.of-method.result.now
          c.split_at.result.0.now _
          c.of-method.ensures c.split_at.ensures.front c.in-Err.ensures,
    )

pub returns-in-Ok : goal.returns-in-Ok
returns-in-Ok c =
    let h = c.requires.covers in (
      h.0,
      has_head c.args.bytes.now c.args.headers.now c.args.spans c.requires.room c.requires.short
          c.requires.within h.0 h.1,
      record {
        method = c.of-method.ensures ∙ h.1.method;
        target = c.target_of.ensures ∙ h.1.path;
        token =
            token_is c.args.bytes.now c.args.headers.now c.args.spans h.0 h.1
            c.split_at.result.0.now
            c.token_of.result.now c.split_at.ensures.front c.token_of.ensures;
        len = h.1.len;
        content =
            framing_is c.args.bytes.now c.args.headers.now c.args.spans h.0 h.1
            c.of-method.result.now
            c.split_at.result.0.now _ c.of-method.ensures c.split_at.ensures.front c.in-Ok.ensures;
      },
    )
