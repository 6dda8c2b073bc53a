use Rattle.std.proofs.Common.{sym, ◌∙◌}
use Rattle.std.specs.List.{Contains}
use Rattle.std.proofs.lemmas.Bool.{false≢true}
use Rattle.pl_locks.specs.declared.contender.Contender.{Contender}
use Rattle.pl_locks.proofs.Chosen.{none_more}
use Rattle.pl_granting.proofs.InList.{holder_found, no_holder}
use Rattle.pl_granting.proofs.locked.holder_of.Goals as goal

pub returns-then-has : goal.returns-then-has
returns-then-has c =
    holder_found c.args.holders.now c.args.key.now c.loop-stage.stage-index c.stage-item.result
    c.requires c.loop-stage-test.true c.stage-item.is c.loop-stage.invariant
    (c.has.ensures.0 c.if-has.true)

pub loop-stage-preserved : goal.loop-stage-preserved
loop-stage-preserved c =
    none_more (λ (stage : Contender). Contains stage.resources c.args.key.now) c.args.holders.now
    c.loop-stage.stage-index c.stage-item.result c.loop-stage-test.true c.stage-item.is
    c.loop-stage.invariant (λ contains. false≢true (sym c.if-has.false ∙ c.has.ensures.1 contains))

pub returns : goal.returns
returns c = no_holder c.args.holders.now c.args.key.now c.loop-stage.stage-index
    c.loop-stage-test.false c.loop-stage.invariant
