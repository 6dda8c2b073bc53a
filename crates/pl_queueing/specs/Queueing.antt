-- Runs that are queued (Microsoft Learn, Azure Pipelines, "Pipeline runs").
use Rattle.std.specs.Prelude.{ℕ, ◌+◌, Bool, List, flat_map, is_none, Option, Some, None, Result, Ok}
use Rattle.std.specs.Prelude.{Err, codes}
use Rattle.std.specs.List.{find}
use Rattle.std.specs.Option.{option_map_or}
use Rattle.pl_answers.specs.Answers.{numbered, refused, with_fact}
use Rattle.pl_answers.specs.declared.answer.Answer.{Answer}
use Rattle.pl_base.specs.declared.expanded.Refusal.{Refusal}
use Rattle.pl_base.specs.declared.resource.ResourceKey.{ResourceKey}
use Rattle.pl_facts.specs.Sizes.{counted}
use Rattle.pl_facts.specs.declared.fact.Event.TheVariants as event
use Rattle.pl_facts.specs.declared.fact.Fact.{Fact}
use Rattle.pl_journal.specs.Log.{Log, last_run}
use Rattle.pl_journal.specs.Settings.{resource}
use Rattle.pl_plan.specs.declared.plan.Compiled.{Compiled}
use Rattle.pl_plan.specs.declared.plan.PlanStage.{PlanStage}
use Rattle.pl_rules.specs.declared.rule.Rule.TheVariants as rules

-- a resource that was never set and isn't built in
abbrev pub is_unknown : List Fact → ResourceKey → Bool
is_unknown facts key = is_none (resource key facts)

-- the first one that is used, stage after stage
abbrev pub unknown_use : List Fact → List PlanStage → Option ResourceKey
unknown_use facts stages = find (is_unknown facts) (flat_map (λ planned. planned.uses) stages)

-- one more than the number of the run that was queued last, as far as the code counts
abbrev pub next_run : Log → ℕ
next_run log = counted (last_run log + 1)

-- a run of this pipeline, by whom, with this plan
abbrev pub queue_run : Log → List ℕ → List ℕ → Compiled → Answer
queue_run log pipeline requester compiled =
    with_fact (numbered 201 (codes "run") (next_run log)) (event.RunQueued (record {
      run = next_run log;
      pipeline = pipeline;
      requester = requester;
      compiled = compiled;
    }))

-- ... where all that it uses is there
abbrev pub queue_compiled : Log → List ℕ → List ℕ → Compiled → Answer
queue_compiled log pipeline requester compiled = option_map_or
    (λ key. refused 422 (rules.ResourceUnknown key)) (unknown_use log.facts compiled.plan.stages)
    (queue_run log pipeline requester compiled)

-- what it was compiled to; nothing was compiled where the pipeline isn't there
abbrev pub Made : Type 0
Made = Option (Result Compiled Refusal)

abbrev pub queue : Log → List ℕ → List ℕ → Made → Answer
queue log pipeline requester None = refused 404 rules.PipelineUnknown
queue log pipeline requester (Some (Err refusal)) = refused 422 (rules.CompileRefused refusal)
queue log pipeline requester (Some (Ok compiled)) =
    queue_compiled log pipeline requester compiled
