-- What follows from what has happened to a run, and from the resources that a stage uses.
use Rattle.std.proofs.Common.{◌≡◌, ℕ, ◌&&◌, ◌++◌, true, false, List, [], ◌∷◌, map, flat_map}
use Rattle.std.proofs.Common.{filter, length}
use Rattle.std.proofs.Common.{is_some, is_none, slice_get, sym, refl, None, unwrap_or}
use Rattle.std.specs.Prelude.{if◌then◌else◌}
use Rattle.std.specs.List.{filter_map, list_all, range_with_len}
use Rattle.std.specs.Option.{option_map_or, option_or}
use Rattle.pl_base.specs.declared.resource.ResourceKey.{ResourceKey}
use Rattle.pl_due.specs.Below.pl_cond.specs.Conditions.{holds}
use Rattle.pl_due.specs.Checked.{all_checks, checks_on, exclusive_uses, is_exclusive, is_permitted}
use Rattle.pl_due.specs.Checked.{permits, is_among}
use Rattle.pl_due.specs.Nodes.{awaits_agent, condition, has_done_all, has_had, is_canceled}
use Rattle.pl_due.specs.Nodes.{is_out_of_time, is_running, is_waiting, outcomes}
use Rattle.pl_facts.specs.declared.fact.Fact.{Fact}
use Rattle.pl_facts.specs.declared.fact.QueuedRun.{QueuedRun}
use Rattle.pl_due.specs.Below.pl_journal.specs.Runs.{holding, job_ending, outcome_told, outputs_told, skipping}
use Rattle.pl_due.specs.Below.pl_journal.specs.Settings.{by}
use Rattle.pl_judgement.specs.Kinds.{by_kind}
use Rattle.pl_facts.specs.Below.pl_plan.specs.declared.plan.Plan.{Plan}
use Rattle.pl_facts.specs.Below.pl_plan.specs.declared.plan.PlanStage.{PlanStage}
use Rattle.pl_due.specs.Below.pl_results.specs.Nodes.{jobs_of}
use Rattle.pl_due.specs.Below.pl_results.specs.declared.members.PlanNode.{PlanNode}
use Rattle.pl_due.specs.Below.pl_views.specs.CheckViews.{check_view, step_marks}
use Rattle.pl_due.specs.Below.pl_views.specs.Ready.{is_ready, latest_moment, ready_moment}
use Rattle.pl_due.specs.Below.pl_views.specs.RunViews.{places, run_view}
use Rattle.pl_run_laws.specs.Runs.{IsSameRun}
use Rattle.pl_run_laws.specs.Uses.{AreSameUses}

pub turned : (run : ℕ) (old new : List Fact) → IsSameRun run old new → IsSameRun run new old
turned run old new same = record {
  queued = sym same.queued;
  canceled = sym same.canceled;
  started = λ stage. sym (same.started stage);
  ended = λ stage. sym (same.ended stage);
  taken = λ stage job. sym (same.taken stage job);
  finished = λ stage job. sym (same.finished stage job);
  decided = λ stage. sym (same.decided stage);
}

pub turned_uses : (uses : List ResourceKey) (old new : List Fact) → AreSameUses uses old new →
    AreSameUses uses new old
turned_uses [] old new same = tt
turned_uses (key ∷ uses) old new same = (sym same.0, turned_uses uses old new same.1)

module _ (run : ℕ) (old new : List Fact) (same : IsSameRun run old new) where
  skipping_is : (stage : ℕ) → skipping run stage new ≡ skipping run stage old
  skipping_is stage =
      λ i. if is_some (same.started stage i) then None else same.ended stage i

  ending_is : (stage job : ℕ) → job_ending run stage job new ≡ job_ending run stage job old
  ending_is stage job = λ i. option_or (same.finished stage job i) (skipping_is stage i)

  pub holding_is : (stage job : ℕ) → holding run stage job new ≡ holding run stage job old
  holding_is stage job =
      λ i. if is_some (ending_is stage job i) then None else same.taken stage job i

  pub running_is : (stage : ℕ) → is_running run stage new ≡ is_running run stage old
  running_is stage = λ i. is_some (same.started stage i) && is_none (same.ended stage i)

  ready_is : (one : PlanStage) → is_ready one run new ≡ is_ready one run old
  ready_is one = λ i. list_all (λ stage. is_some (same.ended stage i)) one.depends

  pub waiting_is : (one : PlanStage) (stage : ℕ) →
      is_waiting one run stage new ≡ is_waiting one run stage old
  waiting_is one stage =
      λ i. is_none (same.started stage i) && is_none (same.ended stage i) && ready_is one i

  pub canceled_is : is_canceled run new ≡ is_canceled run old
  canceled_is = λ i. is_some (same.canceled i)

  view_is : (plan : Plan) → run_view plan run new ≡ run_view plan run old
  view_is plan = λ i. record {
    canceled = is_some (same.canceled i);
    stages = map (λ stage. by outcome_told (same.ended stage i)) (places plan.stages);
    jobs = map (λ stage. map (λ job. record {
      result = by outcome_told (ending_is stage job i);
      outputs = unwrap_or (by outputs_told (ending_is stage job i)) [];
    }) (places (jobs_of plan stage))) (places plan.stages);
  }

  pub condition_is : (told : QueuedRun) (node : PlanNode) →
      condition told run node new ≡ condition told run node old
  condition_is told node =
      λ i. holds told.compiled.plan (view_is told.compiled.plan i) node

  pub over_is : (moment : ℕ) (one : PlanStage) (stage job : ℕ) →
      is_out_of_time moment one run stage job new ≡ is_out_of_time moment one run stage job old
  over_is moment one stage job = λ i. option_map_or (λ planned. option_map_or
      (λ fact. has_had planned.timeout fact.moment moment) (holding_is stage job i) false)
      (slice_get one.jobs job) false

  pub awaits_is : (one : PlanStage) (stage job : ℕ) →
      awaits_agent one run stage job new ≡ awaits_agent one run stage job old
  awaits_is one stage job = λ i. option_map_or (λ planned.
      is_none (same.taken stage job i) && is_none (ending_is stage job i)
      && list_all (λ other. is_some (ending_is stage other i)) planned.depends)
      (slice_get one.jobs job) false

  pub done_is : (one : PlanStage) (stage : ℕ) →
      has_done_all one run stage new ≡ has_done_all one run stage old
  done_is one stage = λ i. list_all (λ job. is_some (ending_is stage job i))
      (range_with_len 0 (length one.jobs))

  pub outcomes_are : (one : PlanStage) (stage : ℕ) →
      outcomes one run stage new ≡ outcomes one run stage old
  outcomes_are one stage = λ i. filter_map (λ job. by outcome_told (ending_is stage job i))
      (range_with_len 0 (length one.jobs))

  ready_moment_is : (one : PlanStage) → ready_moment one run new ≡ ready_moment one run old
  ready_moment_is one =
      λ i. latest_moment (same.queued i ∷ map (λ stage. same.ended stage i) one.depends)

  pub check_view_is : (told : QueuedRun) (one : PlanStage) (stage : ℕ) →
      check_view told one run stage new ≡ check_view told one run stage old
  check_view_is told one stage = λ i. record {
    requester = told.requester;
    decisions = same.decided stage i;
    ready = ready_moment_is one i;
    linked = told.compiled.plan.linked;
    extends = told.compiled.plan.extends;
    steps = step_marks one;
  }

-- ---- resources

module _ (old new : List Fact) where
  guards_are : (uses : List ResourceKey) → AreSameUses uses old new →
      flat_map (checks_on new) uses ≡ flat_map (checks_on old) uses
  guards_are [] same = refl
  guards_are (key ∷ uses) same =
      λ i. option_map_or (λ told. told.checks) (same.0 i) [] ++ guards_are uses same.1 i

  pub checks_are : (uses : List ResourceKey) → AreSameUses uses old new →
      all_checks new uses ≡ all_checks old uses
  checks_are uses same = λ i. by_kind (guards_are uses same i)

  exclusive_are : (uses : List ResourceKey) → AreSameUses uses old new →
      filter (is_exclusive new) uses ≡ filter (is_exclusive old) uses
  exclusive_are [] same = refl
  exclusive_are (key ∷ uses) same =
      λ i. if option_map_or (λ told. told.exclusive) (same.0 i) false
      then key ∷ exclusive_are uses same.1 i else exclusive_are uses same.1 i

  pub uses_are : (one : PlanStage) → AreSameUses one.uses old new →
      exclusive_uses new one ≡ exclusive_uses old one
  uses_are one same = exclusive_are one.uses same

  permitted_all : (pipeline : List ℕ) (uses : List ResourceKey) → AreSameUses uses old new →
      list_all (permits new pipeline) uses ≡ list_all (permits old pipeline) uses
  permitted_all pipeline [] same = refl
  permitted_all pipeline (key ∷ uses) same = λ i. option_map_or (λ told.
      option_map_or (λ names. is_among names pipeline) told.pipelines true) (same.0 i) false
      && permitted_all pipeline uses same.1 i

  pub permitted_is : (told : QueuedRun) (one : PlanStage) → AreSameUses one.uses old new →
      is_permitted new told one ≡ is_permitted old told one
  permitted_is told one same = permitted_all told.pipeline one.uses same
