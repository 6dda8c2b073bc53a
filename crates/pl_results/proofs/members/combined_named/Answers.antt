use Rattle.std.proofs.Common.{sym, ◌∙◌}
use Rattle.pl_results.proofs.ByName.{turn_named, turn_other}
use Rattle.pl_results.proofs.members.combined_named.Goals.{then-is_named, else-is_named}
use Rattle.pl_results.proofs.members.combined_named.Goals as goal

pub loop-one-preserved : goal.loop-one-preserved
loop-one-preserved c =
    elim c.if-is_named.branch [
      | then-is_named w ↦ turn_named c.args.name.now c.args.members.now c.loop-one.one-index
          c.one-item.result c.loop-one.all c.if-is_named.all c.loop-one-test.true c.one-item.is
          (sym c.is_named.ensures ∙ w.if-is_named.true) c.loop-one.invariant
          (w.all-is ∙ w.also-all.ensures)
      | else-is_named w ↦ w.all-is ∙ turn_other c.args.name.now c.args.members.now
          c.loop-one.one-index c.one-item.result c.loop-one.all c.loop-one-test.true c.one-item.is
          (sym c.is_named.ensures ∙ w.if-is_named.false) c.loop-one.invariant
    ]
