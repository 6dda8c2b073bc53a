-- A stage as its checks see it.
use Rattle.std.specs.Prelude.{ℕ, List, ◌∷◌, map, flat_map}
use Rattle.std.specs.List.{enumerate_from}
use Rattle.pl_base.specs.declared.origin.Origin.{Origin}
use Rattle.pl_base.specs.declared.value.MarkedNode.{MarkedNode}
use Rattle.pl_base.specs.declared.value.MarkedPair.{MarkedPair}
use Rattle.pl_base.specs.declared.value.Value.{Value, out-Value}
use Rattle.pl_base.specs.declared.value.Value.TheOpen.{Value-F, Object}
use Rattle.pl_checks.specs.declared.view.CheckView.{CheckView}
use Rattle.pl_checks.specs.declared.view.StepMark.{StepMark}
use Rattle.pl_journal.specs.Below.pl_facts.specs.declared.fact.Fact.{Fact}
use Rattle.pl_journal.specs.Below.pl_facts.specs.declared.fact.QueuedRun.{QueuedRun}
use Rattle.pl_journal.specs.Runs.{decisions}
use Rattle.pl_plan.specs.Labels.{label}
use Rattle.pl_plan.specs.declared.plan.PlanJob.{PlanJob}
use Rattle.pl_plan.specs.declared.plan.PlanStage.{PlanStage}
use Rattle.pl_plan.specs.declared.plan.PlanStep.{PlanStep}
use Rattle.pl_views.specs.Ready.{ready_moment}

-- where the first key of a mapping comes from; what has no key stands for it itself
abbrev pub key_origin : Origin → Value-F Value MarkedNode MarkedPair → Origin
key_origin origin (Object (first ∷ others)) = first.key_origin
key_origin origin _ = origin

-- a step of a job, by its number there from 1
abbrev pub step_mark : PlanJob → ℕ × PlanStep → StepMark
step_mark job step = record {
  job = label job;
  number = step.0;
  mapping = step.1.body.origin;
  key = key_origin step.1.body.origin (out-Value step.1.body.value);
}

abbrev pub job_marks : PlanJob → List StepMark
job_marks job = map (step_mark job) (enumerate_from 1 job.steps)

-- the steps of a stage, each leg's among them, in the plan's order
abbrev pub step_marks : PlanStage → List StepMark
step_marks planned = flat_map job_marks planned.jobs

-- the stage at a place of a queued run
abbrev pub check_view : QueuedRun → PlanStage → ℕ → ℕ → List Fact → CheckView
check_view queued planned run stage facts = record {
  requester = queued.requester;
  decisions = decisions run stage facts;
  ready = ready_moment planned run facts;
  linked = queued.compiled.plan.linked;
  extends = queued.compiled.plan.extends;
  steps = step_marks planned;
}
