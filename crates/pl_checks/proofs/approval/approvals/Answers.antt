use Rattle.std.proofs.Common.{arith}
use Rattle.pl_checks.specs.Approvals.{has_approved, same_name}
use Rattle.pl_checks.proofs.Counting.{next_counted}
use Rattle.pl_checks.proofs.approval.approvals.Goals as goal
use Rattle.pl_checks.proofs.approval.approvals.Goals.{then-is_counted, else-is_counted}

pub loop-place-preserved : goal.loop-place-preserved
loop-place-preserved c =
    let next = next_counted same_name (has_approved c.args.check.now c.args.view.now)
    c.args.approvers.now c.loop-place.place
    c.index-approvers-place.result c.is_counted.result c.loop-place-test.true
    c.index-approvers-place.is
    c.is_counted.ensures in
    elim c.if-is_counted.branch [
      | then-is_counted w ↦
          let one = rw w.if-is_counted.true at next in
          record { all = omega arith; few = omega arith }
      | else-is_counted w ↦
          let none = rw w.if-is_counted.false at next in
          record { all = omega arith; few = omega arith }
    ]
