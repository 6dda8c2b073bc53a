use Rattle.std.proofs.Common.{arith, sym, ◌∙◌, subst}
use Rattle.std.proofs.lemmas.Bool.{false≢true}
use Rattle.pl_locks.specs.Locks.{MayStart}
use Rattle.pl_locks.proofs.Chosen.{first_free, none_more}
use Rattle.pl_locks.proofs.Progress.{progress}
use Rattle.pl_locks.proofs.choosing.next_of.Goals as goal

pub returns-then-may_start-clause-next : goal.returns-then-may_start-clause-next
returns-then-may_start-clause-next c =
    first_free c.args.eligible.now c.args.holders.now c.loop-stage.stage-index c.stage-item.result
    c.requires c.loop-stage-test.true c.stage-item.is c.loop-stage.invariant
    (c.may_start.ensures.0 c.if-may_start.true)

pub loop-stage-preserved : goal.loop-stage-preserved
loop-stage-preserved c =
    none_more (MayStart c.args.eligible.now c.args.holders.now) c.args.eligible.now
    c.loop-stage.stage-index c.stage-item.result c.loop-stage-test.true c.stage-item.is
    c.loop-stage.invariant (λ may. false≢true
    (sym c.if-may_start.false ∙ c.may_start.ensures.1 may))

pub returns-clause-next : goal.returns-clause-next
returns-clause-next c = λ k d below. c.loop-stage.invariant k d (omega arith)

pub returns-clause-some : goal.returns-clause-some
returns-clause-some c = λ stage (k, below, is) may.
    let free = subst (MayStart c.args.eligible.now c.args.holders.now) (sym is) may in
    absurd (c.loop-stage.invariant k stage (omega arith) free)

pub returns-clause-progress : goal.returns-clause-progress
returns-clause-progress c = λ some unheld.
    absurd (progress c.args.eligible.now c.args.holders.now c.requires some unheld
    (λ k d below. c.loop-stage.invariant k d (omega arith)))
