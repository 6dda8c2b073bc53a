use Rattle.std.proofs.Common.{ap, sym, ◌∙◌}
use Rattle.std.specs.Prelude.{slice_get}
use Rattle.pl_plan.specs.declared.plan.Compiled.{Compiled}
use Rattle.pl_due.proofs.OneStage.{no_run, no_stage}
use Rattle.pl_due.proofs.contention.contender_at.Goals as goal

pub contender_if-requires : goal.contender_if-requires
contender_if-requires g c = record {
  moment = c.requires.moment;
  fit = c.requires.fit;
  there = record {
    queued = sym c.in-Some.ensures;
    planned = ap (λ (one : Compiled). slice_get one.plan.stages c.args.place.stage)
        (sym c.deref.ensures) ∙ sym c.in-Some-get.ensures.value;
  };
}

pub returns-in-None-get : goal.returns-in-None-get
returns-in-None-get g c = λ told one there holds.
    no_stage c.args.journal.now.facts c.args.place.run c.args.place.stage c.in-Some.queued.now
    (sym c.in-Some.ensures) (ap (λ (one : Compiled). slice_get one.plan.stages c.args.place.stage)
    (sym c.deref.ensures) ∙ sym c.in-None-get.ensures.value) told one there

pub returns-in-None : goal.returns-in-None
returns-in-None g c = λ told one there holds.
    no_run c.args.journal.now.facts c.args.place.run c.args.place.stage (sym c.in-None.ensures) told
    one there
