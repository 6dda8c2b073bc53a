use Rattle.std.proofs.Common.{◌++◌, ap, sym, ◌∙◌}
use Rattle.std.specs.Prelude.{slice_get}
use Rattle.pl_facts.specs.Below.pl_plan.specs.declared.plan.Compiled.{Compiled}
use Rattle.pl_looks.specs.Jobs.{ready_job, taken_job}
use Rattle.pl_looks.proofs.Telling.{place_lacks, place_none, place_told}
use Rattle.pl_looks.proofs.jobs.push_place.Goals as goal

pub push_stage-requires : goal.push_stage-requires
push_stage-requires c = record {
  moment = c.requires.moment;
  fit = c.requires.fit;
  there = record {
    queued = sym c.in-Some.ensures;
    planned = ap (λ (one : Compiled). slice_get one.plan.stages c.args.stage)
        (sym c.deref.ensures) ∙ sym c.in-Some-get.ensures.value;
  };
}

pub returns-in_ok-push_stage-in-Some-get-clause-ready :
    goal.returns-in_ok-push_stage-in-Some-get-clause-ready
returns-in_ok-push_stage-in-Some-get-clause-ready c =
    c.in_ok-push_stage-in-Some-get.ensures.ready
    ∙ ap (λ more. c.args.ready.now ++ more) (sym (place_told ready_job c.args.journal.now.facts
    c.args.run c.args.stage c.in-Some.queued.now c.in-Some-get.planned.now
    (sym c.in-Some.ensures)
    (ap (λ (one : Compiled). slice_get one.plan.stages c.args.stage) (sym c.deref.ensures)
    ∙ sym c.in-Some-get.ensures.value)))

pub returns-in_ok-push_stage-in-Some-get-clause-taken :
    goal.returns-in_ok-push_stage-in-Some-get-clause-taken
returns-in_ok-push_stage-in-Some-get-clause-taken c =
    c.in_ok-push_stage-in-Some-get.ensures.taken
    ∙ ap (λ more. c.args.taken.now ++ more) (sym (place_told taken_job c.args.journal.now.facts
    c.args.run c.args.stage c.in-Some.queued.now c.in-Some-get.planned.now
    (sym c.in-Some.ensures)
    (ap (λ (one : Compiled). slice_get one.plan.stages c.args.stage) (sym c.deref.ensures)
    ∙ sym c.in-Some-get.ensures.value)))

pub returns-in-None-get-clause-ready : goal.returns-in-None-get-clause-ready
returns-in-None-get-clause-ready c = place_none ready_job c.args.journal.now.facts c.args.run
    c.args.stage c.in-Some.queued.now c.args.ready.now (sym c.in-Some.ensures)
    (ap (λ (one : Compiled). slice_get one.plan.stages c.args.stage) (sym c.deref.ensures)
    ∙ sym c.in-None-get.ensures.value)

pub returns-in-None-get-clause-taken : goal.returns-in-None-get-clause-taken
returns-in-None-get-clause-taken c = place_none taken_job c.args.journal.now.facts c.args.run
    c.args.stage c.in-Some.queued.now c.args.taken.now (sym c.in-Some.ensures)
    (ap (λ (one : Compiled). slice_get one.plan.stages c.args.stage) (sym c.deref.ensures)
    ∙ sym c.in-None-get.ensures.value)

pub returns-in-None-clause-ready : goal.returns-in-None-clause-ready
returns-in-None-clause-ready c = place_lacks ready_job c.args.journal.now.facts c.args.run
    c.args.stage c.args.ready.now (sym c.in-None.ensures)

pub returns-in-None-clause-taken : goal.returns-in-None-clause-taken
returns-in-None-clause-taken c = place_lacks taken_job c.args.journal.now.facts c.args.run
    c.args.stage c.args.taken.now (sym c.in-None.ensures)
