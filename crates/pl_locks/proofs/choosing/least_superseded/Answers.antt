use Rattle.std.proofs.Common.{arith}
use Rattle.pl_locks.specs.Locks.{IsSuperseded}
use Rattle.pl_locks.proofs.Chosen.{first_superseded, none_more}
use Rattle.pl_locks.proofs.choosing.least_superseded.Goals as goal

pub returns-in-Some : goal.returns-in-Some
returns-in-Some c =
    first_superseded c.args.eligible.now c.loop-stage.stage-index c.in-Some.place
    c.stage-item.result
    c.index-eligible-place.result c.requires c.loop-stage-test.true c.stage-item.is
    c.loop-stage.invariant c.in-Some.ensures

pub loop-stage-preserved : goal.loop-stage-preserved
loop-stage-preserved c =
    none_more (IsSuperseded c.args.eligible.now) c.args.eligible.now c.loop-stage.stage-index
    c.stage-item.result c.loop-stage-test.true c.stage-item.is c.loop-stage.invariant
    c.in_default.ensures

pub returns : goal.returns
returns c = λ k d below. c.loop-stage.invariant k d (omega arith)
