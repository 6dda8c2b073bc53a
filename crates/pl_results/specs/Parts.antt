-- What `dependencies` and `stageDependencies` are made of (Microsoft Learn, "Expressions",
-- Dependencies): stages and jobs with their results and outputs, each output under its key.
use Rattle.std.specs.Prelude.{ℕ, ◌==◌, ◌+◌, Bool, true, false, not, List, [], ◌∷◌, ◌++◌, map}
use Rattle.std.specs.Prelude.{filter}
use Rattle.std.specs.Prelude.{codes, slice_get, length, Option, Some, None, if◌then◌else◌}
use Rattle.std.specs.Option.{option_map, option_map_or}
use Rattle.std.specs.List.{list_any, filter_map, range_with_len}
use Rattle.std.specs.BTreeMap.{insert_entry}
use Rattle.pl_base.specs.Files.{text_cmp}
use Rattle.pl_base.specs.declared.outcome.Outcome.{Outcome}
use Rattle.pl_eval.specs.Known.{same_name}
use Rattle.pl_plan.specs.declared.plan.Plan.{Plan}
use Rattle.pl_plan.specs.declared.plan.PlanJob.{PlanJob}
use Rattle.pl_plan.specs.declared.plan.PlanStage.{PlanStage}
use Rattle.pl_results.specs.declared.legs.KeyForm.{KeyForm}
use Rattle.pl_results.specs.declared.legs.KeyForm.TheVariants.{OfStage, OfJob}
use Rattle.pl_results.specs.declared.legs.Leg.{Leg}
use Rattle.pl_results.specs.declared.parts.Group.{Group}
use Rattle.pl_results.specs.declared.parts.Part.{Part}
use Rattle.pl_results.specs.declared.view.JobView.{JobView}
use Rattle.pl_results.specs.declared.view.RunView.{RunView}
use Rattle.pl_results.specs.Members.{member, result_of}
use Rattle.pl_results.specs.declared.members.Member.{Member}
use Rattle.pl_results.specs.Transitive.{direct}
use Rattle.pl_results.specs.Runs.{views_of, result_at, view_result, view_outputs}

-- ---- legs; a job that isn't cut is one leg

-- What stands before `step.variable` in the key of a leg's output: the leg's name and a dot; for a
-- deployment the job's name and a dot; else nothing.
abbrev pub leg_prefix : Option (List ℕ) → Bool → List ℕ → List ℕ
leg_prefix (Some leg) deployment name = leg ++ codes "."
leg_prefix None true name = name ++ codes "."
leg_prefix None false name = []

-- where the outputs are a stage's, the job's name and a dot come before that
abbrev pub prefix_in : KeyForm → PlanJob → List ℕ
prefix_in OfJob job = leg_prefix job.leg job.deployment job.name
prefix_in OfStage job = job.name ++ codes "." ++ leg_prefix job.leg job.deployment job.name

abbrev pub leg_of : KeyForm → PlanJob → Option JobView → Leg
leg_of form job view = record {
  job = job.name;
  prefix = prefix_in form job;
  result = view_result view;
  outputs = view_outputs view;
}

abbrev pub leg_at : KeyForm → List PlanJob → List JobView → ℕ → Option Leg
leg_at form jobs views at =
    option_map (λ job. leg_of form job (slice_get views at)) (slice_get jobs at)

-- the legs at these places
abbrev pub legs_at : KeyForm → List PlanJob → List JobView → List ℕ → List Leg
legs_at form jobs views places = filter_map (leg_at form jobs views) places

abbrev pub all_legs : KeyForm → List PlanJob → List JobView → List Leg
all_legs form jobs views = legs_at form jobs views (range_with_len 0 (length jobs))

abbrev pub direct_legs : List PlanJob → List JobView → List ℕ → List Leg
direct_legs jobs views depends = legs_at OfJob jobs views (direct depends (length jobs))

-- ---- outputs of one leg: by name, in the order of bytes; of two of one name the later one counts

abbrev pub with_outputs : List (List ℕ × List ℕ) → List (List ℕ × List ℕ) → List (List ℕ × List ℕ)
with_outputs kept [] = kept
with_outputs kept (output ∷ outputs) =
    with_outputs (insert_entry text_cmp kept output.0 output.1) outputs

abbrev pub in_order : List (List ℕ × List ℕ) → List (List ℕ × List ℕ)
in_order outputs = with_outputs [] outputs

-- ---- stages by their names

abbrev pub stage_part_of : RunView → ℕ → PlanStage → Part
stage_part_of view at stage = record {
  name = stage.name;
  result = result_at view.stages at;
  legs = all_legs OfStage stage.jobs (views_of view at);
}

abbrev pub stage_part_at : Plan → RunView → ℕ → Option Part
stage_part_at plan view at =
    option_map (stage_part_of view at) (slice_get plan.stages at)

-- the stages for which one waits directly, in the order of the plan
abbrev pub stage_parts : Plan → RunView → List ℕ → List Part
stage_parts plan view depends =
    filter_map (stage_part_at plan view) (direct depends (length plan.stages))

-- ---- jobs by their names: the legs of one name are one job, where the first of them stands

abbrev pub names_of : List Leg → List (List ℕ)
names_of legs = map (λ leg. leg.job) legs

-- each name where it first stands, the case of ASCII's letters aside
abbrev pub once_behind : List (List ℕ) → List (List ℕ) → List (List ℕ)
once_behind before [] = []
once_behind before (name ∷ names) =
    if list_any (same_name name) before then once_behind (before ++ name ∷ []) names
    else name ∷ once_behind (before ++ name ∷ []) names

abbrev pub leg_members : List Leg → List Member
leg_members legs = map (λ leg. member leg.job leg.result) legs

-- its result is the combined one of its legs, once all of them have ended
abbrev pub job_part : List Leg → List ℕ → Part
job_part legs name = record {
  name = name;
  result = result_of (leg_members legs) name;
  legs = filter (λ leg. same_name name leg.job) legs;
}

abbrev pub job_parts : List Leg → List Part
job_parts legs = map (job_part legs) (once_behind [] (names_of legs))

-- ---- stages with their jobs

abbrev pub group_of : RunView → ℕ → PlanStage → Group
group_of view at stage = record {
  name = stage.name;
  legs = all_legs OfJob stage.jobs (views_of view at);
}

abbrev pub group_at : Plan → RunView → ℕ → Option Group
group_at plan view at = option_map (group_of view at) (slice_get plan.stages at)

abbrev pub stage_groups : Plan → RunView → List ℕ → List Group
stage_groups plan view depends =
    filter_map (group_at plan view) (direct depends (length plan.stages))
