use Rattle.std.proofs.Common.{◌++◌, ◌∷◌, [], ap, sym, ◌∙◌}
use Rattle.std.specs.List.{filter}
use Rattle.pl_base.specs.declared.resource.ResourceKey.{ResourceKey}
use Rattle.pl_due.specs.Checked.{is_exclusive}
use Rattle.pl_due.proofs.Looping.{all_kept, kept_one, kept_other}
use Rattle.pl_due.proofs.checked.exclusive_uses.Goals.{else-is_exclusive}
use Rattle.pl_due.proofs.checked.exclusive_uses.Goals.{then-is_exclusive+in_ok-copy+in_ok-push}
use Rattle.pl_due.proofs.checked.exclusive_uses.Goals as goal

pub loop-key-preserved : goal.loop-key-preserved
loop-key-preserved c =
    let test = is_exclusive c.args.journal.now.facts in
    let uses = c.as_slice-uses.result.now in
    elim c.if-is_exclusive.branch [
      | then-is_exclusive+in_ok-copy+in_ok-push w ↦
          kept_one test uses c.loop-key.key-index c.key-item.result c.loop-key.keys
          c.if-is_exclusive.keys c.loop-key-test.true c.key-item.is c.loop-key.invariant
          (sym c.is_exclusive.ensures ∙ w.if-is_exclusive.true)
          (w.keys-is ∙ w.in_ok-push.ensures.ok
          ∙ ap (λ (k : ResourceKey). c.loop-key.keys ++ k ∷ []) w.in_ok-copy.ensures)
      | else-is_exclusive w ↦
          kept_other test uses c.loop-key.key-index c.key-item.result c.loop-key.keys
          c.if-is_exclusive.keys c.loop-key-test.true c.key-item.is c.loop-key.invariant
          (sym c.is_exclusive.ensures ∙ w.if-is_exclusive.false) w.keys-is
    ]

pub returns : goal.returns
returns c =
    all_kept (is_exclusive c.args.journal.now.facts) c.as_slice-uses.result.now
    c.loop-key.key-index c.loop-key.keys c.loop-key-test.false c.loop-key.invariant
    ∙ ap (filter (is_exclusive c.args.journal.now.facts)) c.as_slice-uses.ensures
