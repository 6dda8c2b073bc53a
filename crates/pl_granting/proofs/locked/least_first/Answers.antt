use Rattle.std.proofs.Common.{arith, sym, ◌∙◌}
use Rattle.std.proofs.lemmas.Bool.{false≢true}
use Rattle.pl_locks.specs.Locks.{ComesFirst}
use Rattle.pl_locks.specs.declared.contender.Contender.{Contender}
use Rattle.pl_locks.proofs.Chosen.{none_more}
use Rattle.pl_granting.proofs.InList.{first_found}
use Rattle.pl_granting.proofs.locked.least_first.Goals as goal

pub returns-then-comes_first : goal.returns-then-comes_first
returns-then-comes_first c =
    first_found c.args.eligible.now c.args.stage.now c.loop-other.other-index c.other-item.result
    c.requires c.loop-other-test.true c.other-item.is c.loop-other.invariant
    (c.comes_first.ensures.0 c.if-comes_first.true)

pub loop-other-preserved : goal.loop-other-preserved
loop-other-preserved c =
    none_more (λ (other : Contender). ComesFirst c.args.eligible.now other c.args.stage.now)
    c.args.eligible.now c.loop-other.other-index c.other-item.result c.loop-other-test.true
    c.other-item.is c.loop-other.invariant
    (λ comes. false≢true (sym c.if-comes_first.false ∙ c.comes_first.ensures.1 comes))

pub returns : goal.returns
returns c = λ k d below. c.loop-other.invariant k d (omega (arith, below, c.loop-other-test.false))
