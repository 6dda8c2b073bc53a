use Rattle.std.proofs.Common.{sym, ap, ◌∙◌}
use Rattle.pl_words.proofs.Numbers.{not_plain, not_parsed, parsed}
use Rattle.pl_words.proofs.runs.runs_in.Goals as goal
use Rattle.pl_words.specs.Runs.{is_plain}

pub returns-then-not-is_plain : goal.returns-then-not-is_plain
returns-then-not-is_plain c =
    sym (not_plain c.args.text.now (ap is_plain (sym c.as_bytes.ensures.value) ∙
    sym c.is_plain.ensures ∙ c.if-not-is_plain.true))

pub returns-in-Ok : goal.returns-in-Ok
returns-in-Ok c =
    let plain = ap is_plain (sym c.as_bytes.ensures.value) ∙ sym c.is_plain.ensures ∙
    c.if-not-is_plain.false in
    let told = c.in-Ok.ensures.value.0 in
    c.within.ensures ∙ sym (parsed c.args.text.now c.in-Ok.number plain told.0.0 told.1)

pub returns-in-Err : goal.returns-in-Err
returns-in-Err c =
    let plain = ap is_plain (sym c.as_bytes.ensures.value) ∙ sym c.is_plain.ensures ∙
    c.if-not-is_plain.false in
    sym (not_parsed c.args.text.now plain c.in-Err.ensures.value.0)
