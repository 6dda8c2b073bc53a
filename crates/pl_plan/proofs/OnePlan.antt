-- The plan of a pipeline meets its clauses, which leave one plan.
use Rattle.std.proofs.Common.{◌≡◌, ℕ, ◌+◌, List, [], ◌∷◌, ◌++◌, refl, sym, subst, map, ◌∙◌}
use Rattle.std.specs.Prelude.{flat_map}
use Rattle.std.specs.List.{AllZip, enumerate_from}
use Rattle.pl_schema_parts.specs.declared.pipeline.JobSpec.{JobSpec}
use Rattle.pl_schema_parts.specs.declared.pipeline.Pipeline.{Pipeline}
use Rattle.pl_schema_parts.specs.declared.pipeline.StageSpec.{StageSpec}
use Rattle.pl_plan.specs.declared.legs.Leg.{Leg}
use Rattle.pl_plan.specs.declared.plan.Plan.{Plan}
use Rattle.pl_plan.specs.declared.plan.PlanJob.{PlanJob}
use Rattle.pl_plan.specs.declared.plan.PlanStage.{PlanStage}
use Rattle.pl_depends.specs.Graph.{job_waits}
use Rattle.pl_depends.specs.Places.{places_under, stage_entries, leg_entries}
use Rattle.pl_uses.specs.Pools.{pool_of}
use Rattle.pl_uses.specs.Uses.{all_uses, uses_of}
use Rattle.pl_plan.specs.Legs.{legs_of}
use Rattle.pl_plan.specs.Planned.{written_legs, IsJobOf, IsStageOf, IsPlanned, WrittenLeg}
use Rattle.pl_plan.specs.Plans.{plan_from, plan_job, plan_leg, plan_stage, plan_stages, plan_step}
use Rattle.pl_plan.proofs.Ascending.{uses_ascend}
use Rattle.pl_plan.proofs.Members.{one_set, put_has_all, put_has_only}

-- ---- lists, place by place

zip_both : {A B : Type 0} (R : A → B → Type 0) (xs : List A) (ys : List B) (us : List A)
    (vs : List B) → AllZip R xs ys → AllZip R us vs → AllZip R (xs ++ us) (ys ++ vs)
zip_both R [] [] us vs left right = right
zip_both R [] (y ∷ ys) us vs left right = absurd left
zip_both R (x ∷ xs) [] us vs left right = absurd left
zip_both R (x ∷ xs) (y ∷ ys) us vs left right = (left.0, zip_both R xs ys us vs left.1 right)

one_of_each : {A B : Type 0} (R : A → B → Type 0) → ((x : A) (y z : B) → R x y → R x z → y ≡ z) →
    (xs : List A) (ys zs : List B) → AllZip R xs ys → AllZip R xs zs → ys ≡ zs
one_of_each R one [] [] [] left right = refl
one_of_each R one [] [] (z ∷ zs) left right = absurd right
one_of_each R one [] (y ∷ ys) zs left right = absurd left
one_of_each R one (x ∷ xs) [] zs left right = absurd left
one_of_each R one (x ∷ xs) (y ∷ ys) [] left right = absurd right
one_of_each R one (x ∷ xs) (y ∷ ys) (z ∷ zs) left right =
    let first : y ≡ z = one x y z left.0 right.0 in
    let rest : ys ≡ zs = one_of_each R one xs ys zs left.1 right.1 in
    λ i. first i ∷ rest i

-- ---- the plan meets its clauses

module _ (pipeline : Pipeline) (stage : StageSpec) where
  legs_are : (job : JobSpec) (legs : List Leg) →
      AllZip (IsJobOf pipeline stage) (map (λ leg. (job, leg)) legs)
      (map (plan_leg (pool_of pipeline stage job)
      (job_waits (places_under (leg_entries 0 stage.jobs)) job.depends) (map plan_step job.steps)
      job) legs)
  legs_are job [] = tt
  legs_are job (leg ∷ legs) = (
    record {
      name = refl;
      leg = refl;
      deployment = refl;
      condition = refl;
      variables = refl;
      groups = refl;
      pool = refl;
      demands = refl;
      at_once = refl;
      minutes = refl;
      go_on = refl;
      steps = refl;
      depends = refl;
    },
    legs_are job legs,
  )

  jobs_are : (jobs : List JobSpec) →
      AllZip (IsJobOf pipeline stage)
      (flat_map (λ job. map (λ leg. (job, leg)) (legs_of job.legs)) jobs)
      (flat_map (plan_job pipeline stage (places_under (leg_entries 0 stage.jobs))) jobs)
  jobs_are [] = tt
  jobs_are (job ∷ jobs) =
      zip_both (IsJobOf pipeline stage) _ _ _ _ (legs_are job (legs_of job.legs)) (jobs_are jobs)

stage_is : (pipeline : Pipeline) (at : ℕ) (stage : StageSpec) →
    IsStageOf pipeline (at, stage)
    (plan_stage pipeline (places_under (stage_entries 0 pipeline.stages)) at stage)
unfolding uses_of
stage_is pipeline at stage = record {
  name = refl;
  condition = refl;
  variables = refl;
  groups = refl;
  behaviour = refl;
  depends = refl;
  uses_ascend = uses_ascend pipeline stage;
  uses_only = put_has_only (all_uses pipeline stage);
  uses_all = put_has_all (all_uses pipeline stage);
  jobs = jobs_are pipeline stage stage.jobs;
}

stages_are : (pipeline : Pipeline) (at : ℕ) (stages : List StageSpec) →
    AllZip (IsStageOf pipeline) (enumerate_from at stages)
    (plan_stages pipeline (places_under (stage_entries 0 pipeline.stages)) at stages)
stages_are pipeline at [] = tt
stages_are pipeline at (stage ∷ stages) =
    (stage_is pipeline at stage, stages_are pipeline (at + 1) stages)

plan_is : (pipeline : Pipeline) → IsPlanned pipeline (plan_from pipeline)
unfolding plan_from
plan_is pipeline = record {
  root = refl;
  extends = refl;
  linked = refl;
  stages = stages_are pipeline 0 pipeline.stages;
}

pub made_is_planned : (pipeline : Pipeline) (plan : Plan) → plan ≡ plan_from pipeline →
    IsPlanned pipeline plan
made_is_planned pipeline plan is = subst (IsPlanned pipeline) (sym is) (plan_is pipeline)

-- ---- the clauses leave one plan

one_job : (pipeline : Pipeline) (stage : StageSpec) (written : WrittenLeg) (x y : PlanJob) →
    IsJobOf pipeline stage written x → IsJobOf pipeline stage written y → x ≡ y
one_job pipeline stage written x y a b i = record {
  name = (a.name ∙ sym b.name) i;
  leg = (a.leg ∙ sym b.leg) i;
  deployment = (a.deployment ∙ sym b.deployment) i;
  depends = (a.depends ∙ sym b.depends) i;
  condition = (a.condition ∙ sym b.condition) i;
  variables = (a.variables ∙ sym b.variables) i;
  groups = (a.groups ∙ sym b.groups) i;
  pool = (a.pool ∙ sym b.pool) i;
  demands = (a.demands ∙ sym b.demands) i;
  max_parallel = (a.at_once ∙ sym b.at_once) i;
  timeout = (a.minutes ∙ sym b.minutes) i;
  go_on = (a.go_on ∙ sym b.go_on) i;
  steps = (a.steps ∙ sym b.steps) i;
}

one_stage : (pipeline : Pipeline) (written : ℕ × StageSpec) (x y : PlanStage) →
    IsStageOf pipeline written x → IsStageOf pipeline written y → x ≡ y
one_stage pipeline written x y a b =
    let uses : x.uses ≡ y.uses =
    one_set (all_uses pipeline written.1) x.uses y.uses a.uses_ascend b.uses_ascend
    a.uses_only a.uses_all b.uses_only b.uses_all in
    let jobs : x.jobs ≡ y.jobs =
    one_of_each (IsJobOf pipeline written.1) (one_job pipeline written.1)
    (written_legs written.1) x.jobs y.jobs a.jobs b.jobs in
    λ i. record {
      name = (a.name ∙ sym b.name) i;
      depends = (a.depends ∙ sym b.depends) i;
      condition = (a.condition ∙ sym b.condition) i;
      variables = (a.variables ∙ sym b.variables) i;
      groups = (a.groups ∙ sym b.groups) i;
      uses = uses i;
      behaviour = (a.behaviour ∙ sym b.behaviour) i;
      jobs = jobs i;
    }

pub one_plan : (pipeline : Pipeline) (x y : Plan) → IsPlanned pipeline x → IsPlanned pipeline y →
    x ≡ y
one_plan pipeline x y a b =
    let stages : x.stages ≡ y.stages =
    one_of_each (IsStageOf pipeline) (one_stage pipeline) (enumerate_from 0 pipeline.stages)
    x.stages y.stages a.stages b.stages in
    λ i. record {
      root = (a.root ∙ sym b.root) i;
      extends = (a.extends ∙ sym b.extends) i;
      linked = (a.linked ∙ sym b.linked) i;
      stages = stages i;
    }
