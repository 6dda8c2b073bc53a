-- The steps that the schema reads are nodes of what it reads.
use Rattle.std.proofs.Common.{◌≡◌, ℕ, Bool, true, false, Option, Some, None, Result}
use Rattle.std.proofs.Common.{List, [], ◌∷◌}
use Rattle.std.specs.Prelude.{codes, IfOk}
use Rattle.std.specs.List.{AllByRecursion as Each}
use Rattle.pl_base.specs.declared.value.MarkedNode.{MarkedNode}
use Rattle.pl_base.specs.declared.value.MarkedPair.{MarkedPair}
use Rattle.pl_eval_laws.proofs.Trees.{Any, Asked, NodeFrom, PairFrom, pair_parts}
use Rattle.pl_literal.specs.declared.items.ItemKind.{ItemKind}
use Rattle.pl_literal.specs.declared.items.ItemKind.TheVariants as item
use Rattle.pl_literal.specs.Items.{kind_of_key}
use Rattle.pl_base.specs.Texts.{is}
use Rattle.pl_schema_parts.specs.declared.pipeline.JobSpec.{JobSpec}
use Rattle.pl_schema_parts.specs.declared.pipeline.StageSpec.{StageSpec}
use Rattle.pl_schema_parts.specs.declared.pipeline.StepSpec.{StepSpec}
use Rattle.pl_schema_parts.specs.Gives.{Fault}
use Rattle.pl_schema.specs.Jobs.{deploy_in, deployment_of, deployment_row, held_row, holding}
use Rattle.pl_schema.specs.Jobs.{is_whole_deployment, job_by, job_from, job_in, job_of, job_row}
use Rattle.pl_schema.specs.Jobs.{job_names, jobs_in, minutes_in, new_job, run_once_in, strategy_in}
use Rattle.pl_schema.specs.Jobs.{job_legs, job_variables, shared_row}
use Rattle.pl_schema_parts.specs.Legs.{legs_in}
use Rattle.pl_schema_parts.specs.Names.{is_taken, name_in}
use Rattle.pl_schema_parts.specs.Pools.{environment_in, pool_in}
use Rattle.pl_schema_parts.specs.Rows.{has, in_order, some_items}
use Rattle.pl_reading.specs.Steps.{◌>>=◌}
use Rattle.pl_schema_parts.specs.Scalars.{behaviour_in, condition_in, depends_in, items_in}
use Rattle.pl_schema_parts.specs.Scalars.{pairs_in}
use Rattle.pl_schema_parts.specs.Scalars.{truth_in}
use Rattle.pl_schema.specs.Stages.{new_stage, stage_from, stage_in, stage_names, stage_of}
use Rattle.pl_schema.specs.Stages.{stage_row, stage_variables, stages_in}
use Rattle.pl_schema_parts.specs.Steps.{is_step_key, step_from, step_in, step_names, step_pair}
use Rattle.pl_schema_parts.specs.Steps.{steps_in}
use Rattle.pl_schema_parts.specs.Variables.{variables_in}
use Rattle.pl_step_origins.proofs.Reading.{◌also◌, KeepsAt, chosen, items_give}
use Rattle.pl_step_origins.proofs.Reading.{object_keeps, pairs_give, passed_keeps, plain}
use Rattle.pl_step_origins.proofs.Reading.{some_give, taken, then_any, then_ok, turn_gives}

module _ (P : Asked) where
  abbrev pub StepFrom : StepSpec → Type 0
  StepFrom step = NodeFrom P Any step.body

  abbrev pub JobFrom : JobSpec → Type 0
  JobFrom job = Each StepFrom job.steps

  abbrev pub StageFrom : StageSpec → Type 0
  StageFrom stage = Each JobFrom stage.jobs

  pub own : (key : List ℕ) (pair : MarkedPair) → is pair.key key ≡ true → PairFrom P Any pair →
      NodeFrom P Any pair.item
  own key pair is_so all = (pair_parts P Any pair all).1

  -- ---- steps

  step_is : (names : List ℕ → Bool) (node : MarkedNode) (pairs : List MarkedPair) →
      NodeFrom P Any node → IfOk (step_from names node pairs) StepFrom
  step_is names node [] all = tt
  step_is names node (first ∷ pairs) all =
      chosen StepFrom (is_step_key first.key) _ _
      (λ begins. then_any StepFrom (in_order (step_pair names) false (first ∷ pairs)) _
      (λ begun. all))

  step_gives : (names : List ℕ → Bool) (node : MarkedNode) → NodeFrom P Any node →
      IfOk (step_in names node) StepFrom
  unfolding step_in
  step_gives names node all =
      then_any StepFrom (pairs_in node) (step_from names node)
      (λ pairs. step_is names node pairs all)

  pub steps_give : (node : MarkedNode) → NodeFrom P Any node → IfOk (steps_in node) (Each StepFrom)
  unfolding steps_in
  steps_give node all =
      then_ok (Each (NodeFrom P Any)) (Each StepFrom) (items_in node) _ (items_give P node all)
      (λ items each. turn_gives (NodeFrom P Any) StepFrom
      (λ steps item. step_in (is_taken (step_names steps)) item)
      (λ steps item is. step_gives (is_taken (step_names steps)) item is) [] items tt each)

  -- ---- a deployment's steps

  held :
      (key : List ℕ) (read : MarkedNode → Result (List StepSpec) Fault) →
      ((node : MarkedNode) → NodeFrom P Any node → IfOk (read node) (Each StepFrom)) →
      (node : MarkedNode) → NodeFrom P Any node → IfOk (holding key read node) (Each StepFrom)
  held key read reads node all =
      then_ok (Each (PairFrom P Any)) (Each StepFrom) (pairs_in node) _ (pairs_give P node all)
      (λ pairs each. object_keeps (Each StepFrom) (PairFrom P Any) node (has pairs key)
      (held_row key read) [] pairs (
        taken P (Each StepFrom) (PairFrom P Any) (Each StepFrom) key read (λ before steps. steps)
            (own key) reads (λ made steps before is. is),
        tt,
      ) tt each)

  strategy_gives : (node : MarkedNode) → NodeFrom P Any node →
      IfOk (strategy_in node) (Each StepFrom)
  unfolding strategy_in run_once_in deploy_in
  strategy_gives =
      held (codes "runOnce") run_once_in
      (held (codes "deploy") deploy_in (held (codes "steps") steps_in steps_give))

  -- ---- jobs

  shared_rows : Each (KeepsAt JobFrom (PairFrom P Any)) shared_row
  shared_rows =
      plain JobFrom (PairFrom P Any) (codes "dependsOn") depends_in _ (λ job x all. all)
      also plain JobFrom (PairFrom P Any) (codes "condition") condition_in _ (λ job x all. all)
      also plain JobFrom (PairFrom P Any) (codes "continueOnError") truth_in _ (λ job x all. all)
      also plain JobFrom (PairFrom P Any) (codes "pool") pool_in _ (λ job x all. all)
      also plain JobFrom (PairFrom P Any) (codes "timeoutInMinutes") minutes_in _ (λ job x all. all)
      also plain JobFrom (PairFrom P Any) (codes "variables") variables_in job_variables (λ job x
      all. all)
      also passed_keeps JobFrom (PairFrom P Any) (codes "displayName")
      also passed_keeps JobFrom (PairFrom P Any) (codes "workspace")
      also passed_keeps JobFrom (PairFrom P Any) (codes "cancelTimeoutInMinutes")
      also passed_keeps JobFrom (PairFrom P Any) (codes "templateContext")
      also tt

  job_rows : (names : List ℕ → Bool) → Each (KeepsAt JobFrom (PairFrom P Any)) (job_row names)
  job_rows names =
      plain JobFrom (PairFrom P Any) (codes "job") (name_in names) _ (λ job x all. all)
      also plain JobFrom (PairFrom P Any) (codes "strategy") legs_in job_legs (λ job x all. all)
      also taken P JobFrom (PairFrom P Any) (Each StepFrom) (codes "steps") steps_in _ (own (codes
      "steps"))
      steps_give (λ job steps before all. all)
      also shared_rows

  deployment_rows : (names : List ℕ → Bool) →
      Each (KeepsAt JobFrom (PairFrom P Any)) (deployment_row names)
  deployment_rows names =
      plain JobFrom (PairFrom P Any) (codes "deployment") (name_in names) _ (λ job x all. all)
      also plain JobFrom (PairFrom P Any) (codes "environment") environment_in _ (λ job x all. all)
      also taken P JobFrom (PairFrom P Any) (Each StepFrom) (codes "strategy") strategy_in _
      (own (codes "strategy")) strategy_gives (λ job steps before all. all)
      also shared_rows

  by_kind :
      (kind : Option ItemKind) (names : List ℕ → Bool) (node : MarkedNode)
      (pairs : List MarkedPair) → Each (PairFrom P Any) pairs →
      IfOk (job_by kind names node pairs) JobFrom
  unfolding job_of deployment_of
  by_kind (Some item.Job) names node pairs all =
      object_keeps JobFrom (PairFrom P Any) node (has pairs (codes "steps")) (job_row names)
      (new_job false node.origin.source) pairs (job_rows names) tt all
  by_kind (Some item.Deployment) names node pairs all =
      object_keeps JobFrom (PairFrom P Any) node (is_whole_deployment pairs) (deployment_row names)
      (new_job true node.origin.source) pairs (deployment_rows names) tt all
  by_kind (Some item.Step) names node pairs all = tt
  by_kind (Some item.Stage) names node pairs all = tt
  by_kind (Some item.Template) names node pairs all = tt
  by_kind None names node pairs all = tt

  job_is :
      (names : List ℕ → Bool) (node : MarkedNode) (pairs : List MarkedPair) →
      Each (PairFrom P Any) pairs → IfOk (job_from names node pairs) JobFrom
  job_is names node [] all = tt
  job_is names node (first ∷ pairs) all =
      by_kind (kind_of_key first.key) names node (first ∷ pairs) all

  job_gives : (names : List ℕ → Bool) (node : MarkedNode) → NodeFrom P Any node →
      IfOk (job_in names node) JobFrom
  unfolding job_in
  job_gives names node all =
      then_ok (Each (PairFrom P Any)) JobFrom (pairs_in node) (job_from names node)
      (pairs_give P node all) (job_is names node)

  pub jobs_give : (node : MarkedNode) → NodeFrom P Any node → IfOk (jobs_in node) (Each JobFrom)
  unfolding jobs_in
  jobs_give node all =
      then_ok (Each (NodeFrom P Any)) (Each JobFrom) (items_in node >>= some_items node) _
      (then_ok (Each (NodeFrom P Any)) (Each (NodeFrom P Any)) (items_in node) (some_items node)
      (items_give P node all) (some_give P node))
      (λ items each. turn_gives (NodeFrom P Any) JobFrom
      (λ jobs item. job_in (is_taken (job_names jobs)) item)
      (λ jobs item is. job_gives (is_taken (job_names jobs)) item is) [] items tt each)

  -- ---- stages

  stage_rows : (names : List ℕ → Bool) → Each (KeepsAt StageFrom (PairFrom P Any)) (stage_row names)
  stage_rows names =
      plain StageFrom (PairFrom P Any) (codes "stage") (name_in names) _ (λ stage x all. all)
      also plain StageFrom (PairFrom P Any) (codes "dependsOn") depends_in _ (λ stage x all. all)
      also plain StageFrom (PairFrom P Any) (codes "condition") condition_in _ (λ stage x all. all)
      also plain StageFrom (PairFrom P Any) (codes "variables") variables_in stage_variables
      (λ stage x all. all)
      also taken P StageFrom (PairFrom P Any) (Each JobFrom) (codes "jobs") jobs_in _ (own (codes
      "jobs"))
      jobs_give (λ stage jobs before all. all)
      also plain StageFrom (PairFrom P Any) (codes "pool") pool_in _ (λ stage x all. all)
      also plain StageFrom (PairFrom P Any) (codes "lockBehavior") behaviour_in _ (λ stage x all.
      all)
      also passed_keeps StageFrom (PairFrom P Any) (codes "displayName")
      also passed_keeps StageFrom (PairFrom P Any) (codes "templateContext")
      also tt

  stage_is :
      (names : List ℕ → Bool) (node : MarkedNode) (pairs : List MarkedPair) →
      Each (PairFrom P Any) pairs → IfOk (stage_from names node pairs) StageFrom
  unfolding stage_of
  stage_is names node [] all = tt
  stage_is names node (first ∷ pairs) all =
      chosen StageFrom (is first.key (codes "stage")) _ _
      (λ begins. object_keeps StageFrom (PairFrom P Any) node (has (first ∷ pairs) (codes "jobs"))
      (stage_row names) (new_stage node.origin.source) (first ∷ pairs) (stage_rows names) tt all)

  stage_gives : (names : List ℕ → Bool) (node : MarkedNode) → NodeFrom P Any node →
      IfOk (stage_in names node) StageFrom
  unfolding stage_in
  stage_gives names node all =
      then_ok (Each (PairFrom P Any)) StageFrom (pairs_in node) (stage_from names node)
      (pairs_give P node all) (stage_is names node)

  pub stages_give : (node : MarkedNode) → NodeFrom P Any node → IfOk (stages_in node) (Each
      StageFrom)
  unfolding stages_in
  stages_give node all =
      then_ok (Each (NodeFrom P Any)) (Each StageFrom) (items_in node >>= some_items node) _
      (then_ok (Each (NodeFrom P Any)) (Each (NodeFrom P Any)) (items_in node) (some_items node)
      (items_give P node all) (some_give P node))
      (λ items each. turn_gives (NodeFrom P Any) StageFrom
      (λ stages item. stage_in (is_taken (stage_names stages)) item)
      (λ stages item is. stage_gives (is_taken (stage_names stages)) item is) [] items tt each)
