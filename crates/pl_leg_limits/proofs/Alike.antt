-- Legs of one job have one limit, in the plan of whatever sources compile to.
use Rattle.std.proofs.Common.{◌≡◌, ◌+◌, ℕ, zero, suc, Bool, true, false, List, [], ◌∷◌, ◌++◌, map}
use Rattle.std.proofs.Common.{Option, Some, None}
use Rattle.std.proofs.Common.{refl, sym, ap, subst, ◌∙◌}
use Rattle.std.specs.List.{AllByRecursion}
use Rattle.std.specs.Prelude.{codes, flat_map, slice_get, unwrap_or, Result, Ok, Err}
use Rattle.std.specs.Prelude.{if◌then◌else◌}
use Rattle.pl_base.specs.Texts.{is}
use Rattle.pl_base.specs.declared.expanded.Argument.{Argument}
use Rattle.pl_base.specs.declared.expanded.Expanded.{Expanded}
use Rattle.pl_base.specs.declared.place.FileKey.{FileKey}
use Rattle.pl_base.specs.declared.place.Place.{Place}
use Rattle.pl_base.specs.declared.value.MarkedNode.{MarkedNode}
use Rattle.pl_base.specs.declared.value.MarkedPair.{MarkedPair}
use Rattle.pl_compile.specs.Compiling.{IsCompiledOf}
use Rattle.pl_compile.specs.Reading.{Texts}
use Rattle.pl_depends.specs.Graph.{job_waits}
use Rattle.pl_depends.specs.Places.{leg_entries, places_under, stage_entries, Finding}
use Rattle.pl_plan.specs.Legs.{legs_of}
use Rattle.pl_plan.specs.Plans.{plan_from, plan_job, plan_jobs, plan_leg, plan_stages, plan_step}
use Rattle.pl_plan.specs.Plans as plans
use Rattle.pl_plan.specs.declared.legs.Leg.{Leg}
use Rattle.pl_plan.specs.declared.plan.Compiled.{Compiled}
use Rattle.pl_plan.specs.declared.plan.Plan.{Plan}
use Rattle.pl_plan.specs.declared.plan.PlanJob.{PlanJob}
use Rattle.pl_plan.specs.declared.plan.PlanStage.{PlanStage}
use Rattle.pl_reading.specs.Steps.{◌>>=◌}
use Rattle.pl_schema.specs.Jobs.{jobs_in}
use Rattle.pl_schema.specs.Pipelines.{has_form, has_some_form, new_root, pipeline_from, pipeline_of}
use Rattle.pl_schema.specs.Pipelines.{root_in, root_row, root_variables}
use Rattle.pl_schema.specs.Pipelines as schema
use Rattle.pl_schema.specs.Stages.{new_stage, stage_from, stage_in, stage_names, stage_of}
use Rattle.pl_schema.specs.Stages.{stage_row}
use Rattle.pl_schema.specs.Stages.{stage_variables, stages_in}
use Rattle.pl_schema.specs.declared.root.Form.{Form}
use Rattle.pl_schema.specs.declared.root.Form.TheVariants as form
use Rattle.pl_schema.specs.declared.root.Root.{Root}
use Rattle.pl_schema_parts.specs.Gives.{Fault}
use Rattle.pl_schema_parts.specs.Names.{is_taken, name_in}
use Rattle.pl_schema_parts.specs.Rows.{at_node, has, in_turn, read_object, sets}
use Rattle.pl_schema_parts.specs.Rows.{some_items}
use Rattle.pl_schema_parts.specs.Legs.{legs_in}
use Rattle.pl_schema_parts.specs.Pools.{pool_in}
use Rattle.pl_schema_parts.specs.Scalars.{behaviour_in, condition_in, depends_in, items_in}
use Rattle.pl_schema_parts.specs.Scalars.{pairs_in}
use Rattle.pl_schema_parts.specs.Scalars.{truth_in}
use Rattle.pl_schema_parts.specs.Steps.{steps_in}
use Rattle.pl_schema_parts.specs.Variables.{variables_in}
use Rattle.pl_schema_parts.specs.declared.fault.SchemaCode.TheVariants.{FirstKey, TwoForms}
use Rattle.pl_schema_parts.specs.declared.legs.Legs.{Legs}
use Rattle.pl_schema_parts.specs.declared.pipeline.JobSpec.{JobSpec}
use Rattle.pl_schema_parts.specs.declared.pipeline.Pipeline.{Pipeline}
use Rattle.pl_schema_parts.specs.declared.pipeline.StageSpec.{StageSpec}
use Rattle.pl_uses.specs.Pools.{pool_of}
use Rattle.pl_leg_limits.specs.Alike.{AreAlike, LegsAreAlike}
use Rattle.pl_leg_limits.proofs.Keeping.{alone_keep, good, ignored_keep, in_turn_keeps}
use Rattle.pl_leg_limits.proofs.Keeping.{object_keeps}
use Rattle.pl_leg_limits.proofs.Keeping.{only_keep, same_value, sets_keep, Keeps}
use Rattle.pl_leg_limits.proofs.Naming.{jobs_alike, joined, weaker, Alike, AllLike, Like}

-- ---- stages

abbrev IsFine : StageSpec → Type 0
IsFine stage = Alike stage.jobs

abbrev AreFine : List StageSpec → Type 0
AreFine stages = AllByRecursion IsFine stages

kept_jobs : {X : Type 0} (read : MarkedNode → Result X Fault) (keep : StageSpec → X → StageSpec) →
    ((made : StageSpec) (value : X) → (keep made value).jobs ≡ made.jobs) →
    Keeps IsFine (sets read keep)
kept_jobs read keep same = sets_keep IsFine read keep
    (λ made value node e fine. subst Alike (sym (same made value)) fine)

stage_fine : (taken : List ℕ → Bool) (node : MarkedNode) (pairs : List MarkedPair)
    (stage : StageSpec) → stage_of taken node pairs ≡ Ok stage → IsFine stage
unfolding stage_of
stage_fine taken node pairs stage e =
    object_keeps IsFine node (has pairs (codes "jobs")) (stage_row taken)
    (new_stage node.origin.source) pairs stage (
      kept_jobs (name_in taken) (λ stage name. record stage { name = name })
          (λ made value. refl),
      (
        kept_jobs depends_in (λ stage names. record stage { depends = Some names })
            (λ made value. refl),
        (
          kept_jobs condition_in (λ stage e. record stage { condition = Some e })
              (λ made value. refl),
          (
            kept_jobs variables_in stage_variables (λ made value. refl),
            (
              sets_keep IsFine jobs_in (λ (stage : StageSpec) jobs. record stage { jobs = jobs })
                  (λ made jobs it is fine. jobs_alike it jobs is),
              (
                kept_jobs pool_in (λ stage pool. record stage { pool = Some pool })
                    (λ made value. refl),
                (
                  kept_jobs behaviour_in (λ stage b. record stage { behaviour = Some b })
                      (λ made value. refl),
                  (
                    ignored_keep IsFine,
                    (
                      ignored_keep IsFine,
                      tt,
                    ),
                  ),
                ),
              ),
            ),
          ),
        ),
      ),
    )
    tt e

from_fine : (taken : List ℕ → Bool) (node : MarkedNode) (pairs : List MarkedPair)
    (stage : StageSpec) → stage_from taken node pairs ≡ Ok stage → IsFine stage
from_fine taken node [] stage e = absurd (cc)
from_fine taken node (first ∷ pairs) stage e = go (is first.key (codes "stage")) e where
  go : (b : Bool) → (if b then stage_of taken node (first ∷ pairs) else at_node FirstKey node) ≡
      Ok stage → IsFine stage
  go true f = stage_fine taken node (first ∷ pairs) stage f
  go false f = absurd (cc)

in_fine : (taken : List ℕ → Bool) (node : MarkedNode) (stage : StageSpec) →
    stage_in taken node ≡ Ok stage → IsFine stage
unfolding stage_in
in_fine taken node stage e =
    let step = good (pairs_in node) (stage_from taken node) stage e in
    from_fine taken node step.value stage step.then_is

stages_fine : (node : MarkedNode) (stages : List StageSpec) → stages_in node ≡ Ok stages →
    AreFine stages
unfolding stages_in
stages_fine node stages e =
    let step = good (items_in node >>= some_items node)
    (in_turn (λ made it. stage_in (is_taken (stage_names made)) it) []) stages e in
    in_turn_keeps AreFine (λ made it. stage_in (is_taken (stage_names made)) it)
    (λ made it one fine is. joined IsFine made (one ∷ []) fine
    (in_fine (is_taken (stage_names made)) it one is, tt)) step.value [] stages tt step.then_is

-- ---- the root

abbrev FormIsFine : Form → Type 0
FormIsFine (form.Stages stages) = AreFine stages
FormIsFine (form.Jobs jobs) = Alike jobs
FormIsFine _ = Unit {0}

abbrev RootIsFine : Root → Type 0
RootIsFine root = FormIsFine root.form

kept_form : {X : Type 0} (read : MarkedNode → Result X Fault) (keep : Root → X → Root) →
    ((made : Root) (value : X) → (keep made value).form ≡ made.form) →
    Keeps RootIsFine (sets read keep)
kept_form read keep same = sets_keep RootIsFine read keep
    (λ made value node e fine. subst FormIsFine (sym (same made value)) fine)

-- a form of the root, of which one alone may stand
one_form : {X : Type 0} (read : MarkedNode → Result X Fault) (keep : X → Form) →
    ((value : X) (node : MarkedNode) → read node ≡ Ok value → FormIsFine (keep value)) →
    Keeps RootIsFine (schema.forms read keep)
one_form read keep fine = alone_keep RootIsFine (λ (root : Root). has_form root.form) TwoForms
    (sets read (λ (root : Root) value. record root { form = keep value }))
    (sets_keep RootIsFine read (λ (root : Root) value. record root { form = keep value })
    (λ made value node e was. fine value node e))

root_fine : (node : MarkedNode) (root : Root) → root_in node ≡ Ok root → RootIsFine root
unfolding root_in
root_fine node root e =
    let step = good (pairs_in node) (λ pairs. read_object node (has_some_form pairs)
    (root_row (has pairs (codes "steps"))) new_root pairs) root e in
    object_keeps RootIsFine node (has_some_form step.value)
    (root_row (has step.value (codes "steps"))) new_root step.value root (
      one_form stages_in form.Stages (λ stages it is. stages_fine it stages is),
      (
        one_form jobs_in form.Jobs (λ jobs it is. jobs_alike it jobs is),
        (
          one_form steps_in form.Steps (λ steps it is. tt),
          (
            kept_form variables_in root_variables (λ made value. refl),
            (
              kept_form pool_in (λ root pool. record root { pool = Some pool })
                  (λ made value. refl),
              (
                kept_form behaviour_in (λ root b. record root { behaviour = Some b })
                    (λ made value. refl),
                (
                  only_keep RootIsFine (has step.value (codes "steps"))
                      (sets legs_in (λ (root : Root) read. record root { strategy = read }))
                      (kept_form legs_in (λ root read. record root { strategy = read }) (λ made
                      value. refl)),
                  (
                    only_keep RootIsFine (has step.value (codes "steps"))
                        (sets truth_in (λ (root : Root) go_on. record root { go_on = go_on }))
                        (kept_form truth_in (λ root go_on. record root { go_on = go_on }) (λ made
                        value. refl)),
                    (
                      ignored_keep RootIsFine,
                      (
                        ignored_keep RootIsFine,
                        (
                          ignored_keep RootIsFine,
                          (
                            ignored_keep RootIsFine,
                            (
                              ignored_keep RootIsFine,
                              (
                                ignored_keep RootIsFine,
                                (
                                  ignored_keep RootIsFine,
                                  (
                                    ignored_keep RootIsFine,
                                    tt,
                                  ),
                                ),
                              ),
                            ),
                          ),
                        ),
                      ),
                    ),
                  ),
                ),
              ),
            ),
          ),
        ),
      ),
    )
    tt step.then_is

forms_fine : (place : Place) (strategy : Legs) (go_on : Bool) (it : Form) → FormIsFine it →
    AreFine (schema.stages_of place strategy go_on it)
forms_fine place strategy go_on form.Nothing fine = tt
forms_fine place strategy go_on (form.Stages stages) fine = fine
forms_fine place strategy go_on (form.Jobs jobs) fine = (fine, tt)
forms_fine place strategy go_on (form.Steps steps) fine = ((((λ same. refl), tt), tt), tt)

pipeline_fine : (whole : Expanded) (pipeline : Pipeline) → pipeline_of whole ≡ Ok pipeline →
    AreFine pipeline.stages
unfolding pipeline_of
pipeline_fine whole pipeline e =
    let step = good (root_in whole.tree) (λ root. Ok (pipeline_from whole root)) pipeline e in
    subst (λ (it : Pipeline). AreFine it.stages)
    (same_value (pipeline_from whole step.value) pipeline step.then_is)
    (forms_fine whole.tree.origin.source step.value.strategy step.value.go_on step.value.form
    (root_fine whole.tree step.value step.is))

-- ---- the plan

abbrev LegsLike : PlanJob → PlanJob → Type 0
LegsLike one other = one.name ≡ other.name → one.max_parallel ≡ other.max_parallel

all_map : {X : Type 0} (P : PlanJob → Type 0) (f : X → PlanJob) → ((x : X) → P (f x)) →
    (xs : List X) → AllByRecursion P (map f xs)
all_map P f each [] = tt
all_map P f each (x ∷ xs) = (each x, all_map P f each xs)

all_flat : (P : PlanJob → Type 0) (f : JobSpec → List PlanJob) (jobs : List JobSpec) →
    AllByRecursion (λ job. AllByRecursion P (f job)) jobs → AllByRecursion P (flat_map f jobs)
all_flat P f [] each = tt
all_flat P f (job ∷ jobs) each =
    joined P (f job) (flat_map f jobs) each.0 (all_flat P f jobs each.1)

module _ (pipeline : Pipeline) (stage : StageSpec) where
  abbrev found : Finding
  found = places_under (leg_entries 0 stage.jobs)

  abbrev leg_of : JobSpec → Leg → PlanJob
  leg_of job leg = plan_leg (pool_of pipeline stage job) (job_waits found job.depends)
      (map plan_step job.steps) job leg

  -- a leg is like the legs of what its job is like
  legs_like : (one other : JobSpec) → Like one other → (leg : PlanJob) →
      leg.name ≡ one.name → leg.max_parallel ≡ unwrap_or one.max_parallel 256 →
      AllByRecursion (LegsLike leg) (plan_job pipeline stage found other)
  legs_like one other like leg name limit =
      all_map (LegsLike leg) (leg_of other) (λ it same. limit
      ∙ ap (λ (o : Option ℕ). unwrap_or o 256) (like (sym name ∙ same))) (legs_of other.legs)

  leg_like : (one : JobSpec) → AllLike one stage.jobs → (leg : PlanJob) →
      leg.name ≡ one.name → leg.max_parallel ≡ unwrap_or one.max_parallel 256 →
      AllByRecursion (LegsLike leg) (plan_jobs pipeline stage)
  leg_like one like leg name limit = all_flat (LegsLike leg) (plan_job pipeline stage found)
      stage.jobs (weaker (Like one)
      (λ other. AllByRecursion (LegsLike leg) (plan_job pipeline stage found other))
      (λ other it. legs_like one other it leg name limit) stage.jobs like)

  plan_alike : IsFine stage →
      AllByRecursion (λ leg. AllByRecursion (LegsLike leg) (plan_jobs pipeline stage))
      (plan_jobs pipeline stage)
  plan_alike fine =
      all_flat (λ leg. AllByRecursion (LegsLike leg) (plan_jobs pipeline stage))
      (plan_job pipeline stage found) stage.jobs (weaker (λ one. AllLike one stage.jobs)
      (λ one. AllByRecursion
      (λ leg. AllByRecursion (LegsLike leg) (plan_jobs pipeline stage))
      (plan_job pipeline stage found one))
      (λ one like. all_map (λ leg. AllByRecursion (LegsLike leg) (plan_jobs pipeline stage))
      (leg_of one) (λ it. leg_like one like (leg_of one it) refl refl) (legs_of one.legs))
      stage.jobs fine)

abbrev StageIsAlike : PlanStage → Type 0
StageIsAlike staged =
    AllByRecursion (λ leg. AllByRecursion (LegsLike leg) staged.jobs) staged.jobs

stages_alike : (pipeline : Pipeline) (find : Finding) (at : ℕ) (stages : List StageSpec) →
    AreFine stages → AllByRecursion StageIsAlike (plan_stages pipeline find at stages)
stages_alike pipeline find at [] fine = tt
stages_alike pipeline find at (stage ∷ stages) fine =
    (plan_alike pipeline stage fine.0, stages_alike pipeline find (at + 1) stages fine.1)

got : {X : Type 0} (P : X → Type 0) (xs : List X) (i : ℕ) (x : X) → AllByRecursion P xs →
    slice_get xs i ≡ Some x → P x
got P [] i x each e = absurd (cc)
got P (y ∷ xs) zero x each e = let same : y ≡ x = cc in subst P same each.0
got P (y ∷ xs) (suc i) x each e = got P xs i x each.1 e

planned_stages : (pipeline : Pipeline) → (plan_from pipeline).stages ≡ plans.stages_of pipeline
unfolding plan_from
planned_stages pipeline = refl

pub legs_alike : LegsAreAlike
legs_alike texts root arguments compiled is stage left right staged one other there first second =
    got (LegsLike one) staged.jobs right other
    (got (λ leg. AllByRecursion (LegsLike leg) staged.jobs) staged.jobs left one
    (got StageIsAlike compiled.plan.stages stage staged
    (subst (AllByRecursion StageIsAlike) (sym (ap (λ (it : Plan). it.stages) is.plans.2
    ∙ planned_stages is.pipeline)) (stages_alike is.pipeline
    (places_under (stage_entries 0 is.pipeline.stages)) 0 is.pipeline.stages
    (pipeline_fine is.whole is.pipeline is.reads))) there) first) second
