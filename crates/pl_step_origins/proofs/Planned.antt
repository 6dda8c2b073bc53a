-- Each step of a plan stands in the tree that it was made of.
use Rattle.std.proofs.Common.{◌≡◌, ℕ, ◌+◌, Bool, true, false, ◌||◌, cond, Option, Result, Ok}
use Rattle.std.proofs.Common.{List, [], ◌∷◌, map, refl, sym, ap, subst, ◌∙◌}
use Rattle.std.proofs.lemmas.Bool.{false≢true}
use Rattle.std.specs.Prelude.{codes, Contains, filter, flat_map, IfOk}
use Rattle.std.specs.List.{AllByRecursion as Each, list_any}
use Rattle.pl_base.specs.declared.expanded.Expanded.{Expanded}
use Rattle.pl_base.specs.declared.origin.Origin.{Origin}
use Rattle.pl_base.specs.declared.place.Place.{Place}
use Rattle.pl_base.specs.declared.value.Value.{out-Value}
use Rattle.pl_base.specs.declared.value.Value.TheOpen as layer
use Rattle.pl_base.specs.declared.value.MarkedNode.{MarkedNode}
use Rattle.pl_base.specs.declared.value.MarkedPair.{MarkedPair}
use Rattle.pl_depends.specs.Graph.{job_waits}
use Rattle.pl_depends.specs.Places.{Finding, leg_entries, places_under, stage_entries}
use Rattle.pl_eval_laws.specs.Marks.{Mark, Said, IsTold, marks_in, marks_of}
use Rattle.pl_eval_laws.specs.Trees.{origins_in, origins_of}
use Rattle.pl_eval_laws.proofs.Lists.{each_append, each_back, each_contained, each_front}
use Rattle.pl_eval_laws.proofs.Lists.{each_implies, each_map, each_of}
use Rattle.pl_eval_laws.proofs.Leads.{Opened, leads_in, leads_of}
use Rattle.pl_eval_laws.proofs.Trees.{Any, Asked, Marked, NodeFrom, OpenedFrom, PairFrom}
use Rattle.pl_eval_laws.proofs.Trees.{node_parts, nothing_led, only}
use Rattle.pl_eval_laws.proofs.Trees.{pair_parts, value_parts}
use Rattle.pl_provenance.specs.Below.pl_extends.specs.Forms.{is_form}
use Rattle.pl_base.specs.Texts.{is}
use Rattle.pl_plan.specs.Legs.{legs_of}
use Rattle.pl_plan.specs.Plans.{IsPlanOf, plan_from, plan_job, plan_leg}
use Rattle.pl_plan.specs.Plans.{plan_stages, plan_step}
use Rattle.pl_plan.specs.declared.legs.Leg.{Leg}
use Rattle.pl_plan.specs.declared.plan.Plan.{Plan}
use Rattle.pl_provenance.specs.Roots.{jobs_of, pairs_of}
use Rattle.pl_schema_parts.specs.declared.legs.Legs.{Legs}
use Rattle.pl_schema_parts.specs.declared.pipeline.JobSpec.{JobSpec}
use Rattle.pl_schema_parts.specs.declared.pipeline.Pipeline.{Pipeline}
use Rattle.pl_schema_parts.specs.declared.pipeline.PoolSpec.{PoolSpec}
use Rattle.pl_schema_parts.specs.declared.pipeline.StageSpec.{StageSpec}
use Rattle.pl_schema_parts.specs.declared.pipeline.StepSpec.{StepSpec}
use Rattle.pl_schema.specs.declared.root.Form.{Form}
use Rattle.pl_schema.specs.declared.root.Form.TheVariants.{Nothing, Stages, Jobs, Steps}
use Rattle.pl_schema.specs.declared.root.Root.{Root}
use Rattle.pl_schema_parts.specs.Gives.{Fault}
use Rattle.pl_schema.specs.Jobs.{jobs_in}
use Rattle.pl_schema_parts.specs.Legs.{legs_in}
use Rattle.pl_schema.specs.Pipelines.{forms, has_form, has_some_form, new_root, pipeline_from}
use Rattle.pl_schema.specs.Pipelines.{pipeline_of}
use Rattle.pl_schema.specs.Pipelines.{root_in, root_row, root_variables, stages_of}
use Rattle.pl_schema_parts.specs.Pools.{pool_in}
use Rattle.pl_schema_parts.specs.Rows.{has, sets}
use Rattle.pl_schema_parts.specs.Scalars.{behaviour_in, pairs_from, pairs_in, truth_in}
use Rattle.pl_schema.specs.Stages.{stages_in}
use Rattle.pl_schema_parts.specs.Steps.{steps_in}
use Rattle.pl_schema_parts.specs.Variables.{variables_in}
use Rattle.pl_schema_parts.specs.declared.fault.SchemaCode.TheVariants.{TwoForms}
use Rattle.pl_uses.specs.Pools.{pool_of}
use Rattle.pl_plan.specs.declared.plan.PlanStep.{PlanStep}
use Rattle.pl_step_origins.specs.Steps.{AreStepsFrom, AreStepsOf, AreStepsSaying, IsJobOf}
use Rattle.pl_step_origins.specs.Steps.{IsStageOf, IsStepFrom, IsStepSaying}
use Rattle.pl_step_origins.specs.Steps.{PlansExtendTheSame, StepsStandInTheTree, job_origins}
use Rattle.pl_step_origins.proofs.Reading.{◌also◌, KeepsAt, alone_keeps, object_keeps, only_keeps}
use Rattle.pl_step_origins.proofs.Reading.{passed_keeps, plain, taken, then_any}
use Rattle.pl_step_origins.proofs.Reading.{then_ok}
use Rattle.pl_step_origins.proofs.Schema.{JobFrom, StageFrom, StepFrom, jobs_give, stages_give}
use Rattle.pl_step_origins.proofs.Schema.{steps_give}

-- ---- the root

pub asked : {X : Type 0} (Q : X → Type 0) (test : X → Bool) (xs : List X) → Each Q (filter test xs)
    →
    Each (λ x. test x ≡ true → Q x) xs
asked Q test [] all = tt
asked Q test (x ∷ xs) all = by (test x) refl all (asked Q test xs)
  where
    by :
        (found : Bool) → test x ≡ found →
        Each Q (cond found (x ∷ filter test xs) (filter test xs)) →
        (Each Q (filter test xs) → Each (λ x. test x ≡ true → Q x) xs) →
        Each (λ x. test x ≡ true → Q x) (x ∷ xs)
    by true is_so all rest = ((λ so. all.0), rest all.1)
    by false is_so all rest = ((λ so. absurd (false≢true (sym is_so ∙ so))), rest all)

first_form : (key : List ℕ) → is key (codes "stages") ≡ true → is_form key ≡ true
first_form key is_so =
    ap (λ test. test || list_any (is key) (codes "jobs" ∷ codes "steps" ∷ [])) is_so

second_form : (key : List ℕ) → is key (codes "jobs") ≡ true → is_form key ≡ true
second_form key is_so = by (is key (codes "stages"))
  where
    by :
        (first : Bool) →
        (first || (is key (codes "jobs") || (is key (codes "steps") || false))) ≡ true
    by true = refl
    by false = ap (λ test. test || (is key (codes "steps") || false)) is_so

third_form : (key : List ℕ) → is key (codes "steps") ≡ true → is_form key ≡ true
third_form key is_so = by (is key (codes "stages")) (is key (codes "jobs"))
  where
    by : (first second : Bool) → (first || (second || (is key (codes "steps") || false))) ≡ true
    by true second = refl
    by false true = refl
    by false false = ap (λ test. test || false) is_so

module _ (P : Asked) where
  -- of the forms alone P is asked
  abbrev FormFrom : MarkedPair → Type 0
  FormFrom pair = is_form pair.key ≡ true → PairFrom P Any pair

  abbrev IsFormFrom : Form → Type 0
  IsFormFrom Nothing = Unit {0}
  IsFormFrom (Stages stages) = Each (StageFrom P) stages
  IsFormFrom (Jobs jobs) = Each (JobFrom P) jobs
  IsFormFrom (Steps steps) = Each (StepFrom P) steps

  abbrev RootFrom : Root → Type 0
  RootFrom root = IsFormFrom root.form

  form_keeps :
      {X : Type 0} (Q : X → Type 0) (key : List ℕ) (read : MarkedNode → Result X Fault)
      (keep : X → Form) →
      ((pair : MarkedPair) → is pair.key key ≡ true → is_form pair.key ≡ true) →
      ((node : MarkedNode) → NodeFrom P Any node → IfOk (read node) Q) →
      ((x : X) → Q x → IsFormFrom (keep x)) →
      KeepsAt RootFrom FormFrom (key, forms read keep)
  form_keeps Q key read keep is_one reads keeps =
      alone_keeps RootFrom FormFrom key (λ root. has_form root.form) TwoForms
      (sets read (λ root form. record root { form = keep form }))
      (taken P RootFrom FormFrom Q key read (λ root form. record root { form = keep form })
      (λ pair is_so from. (pair_parts P Any pair (from (is_one pair is_so))).1) reads
      (λ root x before is. keeps x is))

  root_rows : (steps : Bool) → Each (KeepsAt RootFrom FormFrom) (root_row steps)
  root_rows steps =
      form_keeps (Each (StageFrom P)) (codes "stages") stages_in Stages
      (λ pair is_so. first_form pair.key is_so) (stages_give P) (λ stages all. all)
      also form_keeps (Each (JobFrom P)) (codes "jobs") jobs_in Jobs
      (λ pair is_so. second_form pair.key is_so) (jobs_give P) (λ jobs all. all)
      also form_keeps (Each (StepFrom P)) (codes "steps") steps_in Steps
      (λ pair is_so. third_form pair.key is_so) (steps_give P) (λ steps all. all)
      also plain RootFrom FormFrom (codes "variables") variables_in root_variables (λ root x all.
      all)
      also plain RootFrom FormFrom (codes "pool") pool_in _ (λ root x all. all)
      also plain RootFrom FormFrom (codes "lockBehavior") behaviour_in _ (λ root x all. all)
      also only_keeps RootFrom FormFrom (codes "strategy") steps _
      (plain RootFrom FormFrom (codes "strategy") legs_in _ (λ root x all. all))
      also only_keeps RootFrom FormFrom (codes "continueOnError") steps _
      (plain RootFrom FormFrom (codes "continueOnError") truth_in _ (λ root x all. all))
      also passed_keeps RootFrom FormFrom (codes "name")
      also passed_keeps RootFrom FormFrom (codes "trigger")
      also passed_keeps RootFrom FormFrom (codes "pr")
      also passed_keeps RootFrom FormFrom (codes "schedules")
      also passed_keeps RootFrom FormFrom (codes "appendCommitMessageToRunName")
      also passed_keeps RootFrom FormFrom (codes "parameters")
      also passed_keeps RootFrom FormFrom (codes "resources")
      also passed_keeps RootFrom FormFrom (codes "workspace")
      also tt

  opened_forms :
      (node : MarkedNode) (one : Opened) →
      Each (PairFrom P Any) (filter (λ pair. is_form pair.key) (pairs_of one)) →
      IfOk (pairs_from node one) (Each FormFrom)
  opened_forms node (layer.Object pairs) all =
      asked (PairFrom P Any) (λ pair. is_form pair.key) pairs all
  opened_forms node layer.Null all = tt
  opened_forms node (layer.Str []) all = tt
  opened_forms node (layer.Str (first ∷ text)) all = tt
  opened_forms node (layer.Bool truth) all = tt
  opened_forms node (layer.Number number) all = tt
  opened_forms node (layer.Version segments) all = tt
  opened_forms node (layer.Array items) all = tt

  root_gives : (node : MarkedNode) → Each (PairFrom P Any) (jobs_of node) →
      IfOk (root_in node) RootFrom
  unfolding root_in
  root_gives node all =
      then_ok (Each FormFrom) RootFrom (pairs_in node) _
      (opened_forms node (out-Value node.value) all)
      (λ pairs each. object_keeps RootFrom FormFrom node (has_some_form pairs)
      (root_row (has pairs (codes "steps"))) new_root pairs
      (root_rows (has pairs (codes "steps"))) tt each)

  stages_from : (place : Place) (strategy : Legs) (go_on : Bool) (form : Form) →
      IsFormFrom form → Each (StageFrom P) (stages_of place strategy go_on form)
  stages_from place strategy go_on Nothing all = tt
  stages_from place strategy go_on (Stages stages) all = all
  stages_from place strategy go_on (Jobs jobs) all = (all, tt)
  stages_from place strategy go_on (Steps steps) all = ((all, tt), tt)

  abbrev PipelineFrom : Pipeline → Type 0
  PipelineFrom pipeline = Each (StageFrom P) pipeline.stages

  pub pipeline_gives : (whole : Expanded) → Each (PairFrom P Any) (jobs_of whole.tree) →
      IfOk (pipeline_of whole) PipelineFrom
  unfolding pipeline_of
  pipeline_gives whole all =
      then_ok RootFrom PipelineFrom (root_in whole.tree) (λ root. Ok (pipeline_from whole root))
      (root_gives whole.tree all)
      (λ root from. stages_from whole.tree.origin.source root.strategy root.go_on root.form from)

  -- ---- the plan

  abbrev pub IsStep : PlanStep → Type 0
  IsStep step = NodeFrom P Any step.body

  steps_are : (steps : List StepSpec) → Each (StepFrom P) steps →
      Each IsStep (map plan_step steps)
  steps_are steps all = each_map (StepFrom P) IsStep plan_step (λ step from. from) steps all

  module _ (pipeline : Pipeline) (stage : StageSpec) (find : Finding) where
    legs_are :
        (pool : Option PoolSpec) (depends : List ℕ) (job : JobSpec) (legs : List Leg) →
        JobFrom P job →
        Each (IsJobOf IsStep) (map (plan_leg pool depends (map plan_step job.steps) job) legs)
    legs_are pool depends job [] from = tt
    legs_are pool depends job (leg ∷ legs) from =
        (steps_are job.steps from, legs_are pool depends job legs from)

    jobs_are : (jobs : List JobSpec) → Each (JobFrom P) jobs →
        Each (IsJobOf IsStep) (flat_map (plan_job pipeline stage find) jobs)
    jobs_are [] all = tt
    jobs_are (job ∷ jobs) all =
        each_append (IsJobOf IsStep) (plan_job pipeline stage find job)
        (flat_map (plan_job pipeline stage find) jobs)
        (legs_are (pool_of pipeline stage job) (job_waits find job.depends) job
        (legs_of job.legs) all.0)
        (jobs_are jobs all.1)

  stages_are : (pipeline : Pipeline) (find : Finding) (at : ℕ) (stages : List StageSpec) →
      Each (StageFrom P) stages → Each (IsStageOf IsStep) (plan_stages pipeline find at stages)
  stages_are pipeline find at [] all = tt
  stages_are pipeline find at (stage ∷ stages) all = (
    jobs_are pipeline stage (places_under (leg_entries 0 stage.jobs)) stage.jobs all.0,
    stages_are pipeline find (at + 1) stages all.1,
  )

  planned : (pipeline : Pipeline) → PipelineFrom pipeline → AreStepsOf IsStep (plan_from pipeline)
  unfolding plan_from
  planned pipeline all =
      stages_are pipeline (places_under (stage_entries 0 pipeline.stages)) 0 pipeline.stages all

  pub steps_from :
      (whole : Expanded) (pipeline : Pipeline) (plan : Plan) → pipeline_of whole ≡ Ok pipeline →
      IsPlanOf pipeline (Ok plan) → Each (PairFrom P Any) (jobs_of whole.tree) → AreStepsOf IsStep
      plan
  steps_from whole pipeline plan reads plans all =
      subst (AreStepsOf IsStep) (sym plans.2)
      (planned pipeline (subst (λ read. IfOk read PipelineFrom) reads (pipeline_gives whole all)))

  -- ---- the jobs of a tree, where P holds of all of it

  kept : (test : MarkedPair → Bool) (pairs : List MarkedPair) → Each (PairFrom P Any) pairs →
      Each (PairFrom P Any) (filter test pairs)
  kept test [] all = tt
  kept test (pair ∷ pairs) all = by (test pair) (kept test pairs all.1)
    where
      by : (found : Bool) → Each (PairFrom P Any) (filter test pairs) →
          Each (PairFrom P Any) (cond found (pair ∷ filter test pairs) (filter test pairs))
      by true rest = (all.0, rest)
      by false rest = rest

  opened_jobs : (one : Opened) → OpenedFrom P Any one → Each (PairFrom P Any) (pairs_of one)
  opened_jobs (layer.Object pairs) all = all
  opened_jobs layer.Null all = tt
  opened_jobs (layer.Str text) all = tt
  opened_jobs (layer.Bool truth) all = tt
  opened_jobs (layer.Number number) all = tt
  opened_jobs (layer.Version segments) all = tt
  opened_jobs (layer.Array items) all = tt

  pub jobs_parts : (node : MarkedNode) → NodeFrom P Any node → Each (PairFrom P Any) (jobs_of node)
  jobs_parts node all =
      kept (λ pair. is_form pair.key) (pairs_of (out-Value node.value))
      (opened_jobs (out-Value node.value) (value_parts P Any node.value (node_parts P Any node
      all).1))

-- ---- the same of each step, in other words

step_by_step :
    (Q S : PlanStep → Type 0) → ((step : PlanStep) → Q step → S step) → (plan : Plan) →
    AreStepsOf Q plan → AreStepsOf S plan
step_by_step Q S implies plan =
    each_implies (IsStageOf Q) (IsStageOf S)
    (λ stage. each_implies (IsJobOf Q) (IsJobOf S)
    (λ job. each_implies Q S implies job.steps) stage.jobs)
    plan.stages

-- of origins

pub steps_hold :
    (P : Origin → Type 0) (whole : Expanded) (pipeline : Pipeline) (plan : Plan) →
    pipeline_of whole ≡ Ok pipeline → IsPlanOf pipeline (Ok plan) →
    Each (λ (pair : MarkedPair). Each P (origins_in pair)) (jobs_of whole.tree) →
    AreStepsFrom P plan
unfolding NodeFrom PairFrom
steps_hold P whole pipeline plan reads plans all =
    step_by_step (IsStep (only P)) (IsStepFrom P) (λ step from. from.0) plan
    (steps_from (only P) whole pipeline plan reads plans
    (each_implies (λ (pair : MarkedPair). Each P (origins_in pair)) (PairFrom (only P) Any)
    (λ pair own. (
      own,
      (
        nothing_led (leads_in pair),
        each_of (Marked (only P)) (λ one files. tt) (marks_in pair),
      ),
    )) (jobs_of whole.tree) all))

pub jobs_hold :
    (P : Origin → Type 0) (tree : MarkedNode) → Each P (origins_of tree) →
    Each (λ (pair : MarkedPair). Each P (origins_in pair)) (jobs_of tree)
unfolding NodeFrom PairFrom
jobs_hold P tree all =
    each_implies (PairFrom (only P) Any) (λ (pair : MarkedPair). Each P (origins_in pair))
    (λ pair from. from.0) (jobs_of tree)
    (jobs_parts (only P) tree (
      all,
      (
        nothing_led (leads_of tree),
        each_of (Marked (only P)) (λ one files. tt) (marks_of tree),
      ),
    ))

-- of what is said

abbrev Saying : (Place → Said → Type 0) → Asked
Saying says = record {
  own = λ origin. Unit {0};
  says = says;
  calls = λ at from path. Unit {0};
}

pub steps_say :
    (says : Place → Said → Type 0) (whole : Expanded) (pipeline : Pipeline) (plan : Plan) →
    pipeline_of whole ≡ Ok pipeline → IsPlanOf pipeline (Ok plan) →
    Each (λ (mark : Mark). IsTold says mark.origin mark.said) (marks_of whole.tree) →
    AreStepsSaying (λ mark. IsTold says mark.origin mark.said) plan
unfolding NodeFrom
steps_say says whole pipeline plan reads plans all =
    step_by_step (IsStep (Saying says))
    (IsStepSaying (λ mark. IsTold says mark.origin mark.said)) (λ step from. from.1.1) plan
    (steps_from (Saying says) whole pipeline plan reads plans
    (jobs_parts (Saying says) whole.tree (
      each_of (Saying says).own (λ origin. tt) (origins_of whole.tree),
      (nothing_led (leads_of whole.tree), all),
    )))

-- ---- what the plan extends

extends_by : (whole : Expanded) → IfOk (pipeline_of whole) (λ one. one.extends ≡ whole.extends)
unfolding pipeline_of
extends_by whole =
    then_any (λ one. one.extends ≡ whole.extends) (root_in whole.tree)
    (λ root. Ok (pipeline_from whole root)) (λ root. refl)

pub extend_same : PlansExtendTheSame
unfolding plan_from
extend_same whole pipeline plan reads plans =
    ap (λ (plan : Plan). plan.extends) plans.2
    ∙ subst (λ read. IfOk read (λ one. one.extends ≡ whole.extends)) reads (extends_by whole)

-- ---- the law

jobs_apart : (P : Origin → Type 0) (pairs : List MarkedPair) →
    Each P (flat_map origins_in pairs) →
    Each (λ (pair : MarkedPair). Each P (origins_in pair)) pairs
jobs_apart P [] all = tt
jobs_apart P (pair ∷ pairs) all = (
  each_front P (origins_in pair) (flat_map origins_in pairs) all,
  jobs_apart P pairs (each_back P (origins_in pair) (flat_map origins_in pairs) all),
)

pub stand : StepsStandInTheTree
stand whole pipeline plan reads plans =
    steps_hold (Contains (job_origins whole.tree)) whole pipeline plan reads plans
    (jobs_apart (Contains (job_origins whole.tree)) (jobs_of whole.tree)
    (each_contained (job_origins whole.tree)))
