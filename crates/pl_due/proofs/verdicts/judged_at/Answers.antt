use Rattle.std.proofs.Common.{ap, sym, ◌∙◌}
use Rattle.std.specs.Prelude.{slice_get}
use Rattle.pl_plan.specs.declared.plan.Compiled.{Compiled}
use Rattle.pl_due.proofs.Once.{nothing_there}
use Rattle.pl_due.proofs.OneStage.{no_run, no_stage}
use Rattle.pl_due.proofs.verdicts.judged_at.Goals as goal

pub judged-requires-clause-asked : goal.judged-requires-clause-asked
judged-requires-clause-asked c = record {
  moment = c.requires.moment;
  fit = c.requires.fit;
  there = record {
    queued = sym c.in-Some.ensures;
    planned = ap (λ (one : Compiled). slice_get one.plan.stages c.args.place.stage)
        (sym c.deref.ensures) ∙ sym c.in-Some-get.ensures.value;
  };
}

pub returns-in-None-get : goal.returns-in-None-get
returns-in-None-get c =
    let facts = c.args.journal.now.facts in
    let place = c.args.place in
    nothing_there facts c.args.moment place.run place.stage c.nothing.result.fails
    c.nothing.result.picked
    (no_stage facts place.run place.stage c.in-Some.queued.now (sym c.in-Some.ensures)
    (ap (λ (one : Compiled). slice_get one.plan.stages place.stage) (sym c.deref.ensures)
    ∙ sym c.in-None-get.ensures.value))
    c.nothing.ensures.fails c.nothing.ensures.picked

pub returns-in-None : goal.returns-in-None
returns-in-None c =
    let facts = c.args.journal.now.facts in
    let place = c.args.place in
    nothing_there facts c.args.moment place.run place.stage c.nothing-in-None.result.fails
    c.nothing-in-None.result.picked (no_run facts place.run place.stage (sym c.in-None.ensures))
    c.nothing-in-None.ensures.fails c.nothing-in-None.ensures.picked
