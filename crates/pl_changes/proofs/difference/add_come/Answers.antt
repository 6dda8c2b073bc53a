use Rattle.std.proofs.Common.{not}
use Rattle.pl_changes.proofs.Filtering.{filtered_end, filtered_step}
use Rattle.pl_changes.specs.Differing.{coming, have_row}
use Rattle.pl_changes.proofs.difference.add_come.Goals as goal

pub loop-row-preserved : goal.loop-row-preserved
loop-row-preserved c = filtered_step coming (λ row. not (have_row c.args.before.now row)) _ _
    c.row-item.result _ _ _ c.loop-row-test.true c.row-item.is c.loop-row.invariant
    c.in_ok-add_if_come.ensures

pub returns : goal.returns
returns c = filtered_end coming (λ row. not (have_row c.args.before.now row)) c.args.behind.now
    c.loop-row.row-index _ _ c.loop-row-test.false c.loop-row.invariant
