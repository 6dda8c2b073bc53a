-- What is due for a stage or a job alone (Microsoft Learn, Azure Pipelines: "Timeouts", "Specify
-- conditions", "Define approvals and checks"). With which result each ends, and by which rule it is
-- told, is this project's own.
use Rattle.std.specs.Prelude.{◌≡◌, ℕ, Bool, true, false, List, [], Some, None}
use Rattle.std.specs.Prelude.{if◌then◌else◌}
use Rattle.pl_base.specs.declared.outcome.Outcome.{Outcome}
use Rattle.pl_base.specs.declared.outcome.Outcome.TheVariants.{Failed, Canceled, Skipped}
use Rattle.pl_checks.specs.declared.view.Verdict.{Verdict}
use Rattle.pl_facts.specs.declared.fact.Event.{Event}
use Rattle.pl_facts.specs.declared.fact.Event.TheVariants.{JobEnded, StageEnded}
use Rattle.pl_facts.specs.declared.fact.Fact.{Fact}
use Rattle.pl_facts.specs.declared.fact.QueuedRun.{QueuedRun}
use Rattle.pl_plan.specs.declared.plan.PlanStage.{PlanStage}
use Rattle.pl_results.specs.Combining.{combined}
use Rattle.pl_results.specs.declared.members.PlanNode.TheVariants.{Stage, Job}
use Rattle.pl_rules.specs.declared.rule.Rule.{Rule}
use Rattle.pl_rules.specs.declared.rule.Rule.TheVariants as rules
use Rattle.pl_judgement.specs.Said.{first_fail}
use Rattle.pl_due.specs.Checked.{AreVerdictsOf}
use Rattle.pl_due.specs.Nodes.{awaits_agent, condition, has_done_all, is_canceled, is_out_of_time}
use Rattle.pl_due.specs.Nodes.{is_running, is_waiting, outcomes}

-- a job ends by a rule: nothing was reported of it, and it has no outputs
abbrev pub job_end_by : ℕ → ℕ → ℕ → Outcome → Rule → Event
job_end_by run stage job outcome rule = JobEnded outcome None stage job run (Some rule) []

-- ---- a taken job that is out of time ends

abbrev pub timeout_end : ℕ → ℕ → ℕ → Event
timeout_end run stage job = job_end_by run stage job Canceled rules.JobTimeout

pub record TimesOut (facts : List Fact) (moment : ℕ) (told : QueuedRun) (one : PlanStage)
    (run stage job : ℕ) (event : Event) : Type 0 where
  pub runs : is_running run stage facts ≡ true
  pub over : is_out_of_time moment one run stage job facts ≡ true
  pub gets : event ≡ timeout_end run stage job

-- ---- where a condition is false: in a canceled run the end counts as canceled

abbrev pub outcome_of_false : Bool → Outcome
outcome_of_false canceled = if canceled then Canceled else Skipped

abbrev pub rule_of_false : Bool → Rule
rule_of_false canceled = if canceled then rules.RunCanceled else rules.ConditionFalse

-- ---- a job of a running stage ends that nobody has taken, once it waits for nothing more, where
-- its condition is false

abbrev pub false_job_end : Bool → ℕ → ℕ → ℕ → Event
false_job_end canceled run stage job =
    job_end_by run stage job (outcome_of_false canceled) (rule_of_false canceled)

pub record JobIsPassedOver (facts : List Fact) (told : QueuedRun) (one : PlanStage)
    (run stage job : ℕ) (event : Event) : Type 0 where
  pub runs : is_running run stage facts ≡ true
  pub awaits : awaits_agent one run stage job facts ≡ true
  pub says : condition told run (Job stage job) facts ≡ false
  pub gets : event ≡ false_job_end (is_canceled run facts) run stage job

-- ---- a running stage whose jobs have all ended ends, with their combined result

pub record IsDone (facts : List Fact) (told : QueuedRun) (one : PlanStage) (run stage job : ℕ)
    (event : Event) : Type 0 where
  pub itself : job ≡ 0
  pub runs : is_running run stage facts ≡ true
  pub all : has_done_all one run stage facts ≡ true
  pub gets : event ≡ StageEnded run stage (combined (outcomes one run stage facts)) None

-- ---- a waiting stage ends where its condition is false

abbrev pub false_stage_end : Bool → ℕ → ℕ → Event
false_stage_end canceled run stage =
    StageEnded run stage (outcome_of_false canceled) (Some (rule_of_false canceled))

pub record IsPassedOver (facts : List Fact) (told : QueuedRun) (one : PlanStage)
    (run stage job : ℕ) (event : Event) : Type 0 where
  pub itself : job ≡ 0
  pub waits : is_waiting one run stage facts ≡ true
  pub says : condition told run (Stage stage) facts ≡ false
  pub gets : event ≡ false_stage_end (is_canceled run facts) run stage

-- ---- a waiting stage ends where a check fails, by the first rule by which one does

-- where nobody decided in time the stage counts as passed over
abbrev pub outcome_of_fail : Rule → Outcome
outcome_of_fail rules.ApprovalTimeout = Skipped
outcome_of_fail _ = Failed

abbrev pub fail_end : ℕ → ℕ → Rule → Event
fail_end run stage rule = StageEnded run stage (outcome_of_fail rule) (Some rule)

pub record Fails (facts : List Fact) (moment : ℕ) (told : QueuedRun) (one : PlanStage)
    (run stage job : ℕ) (event : Event) : Type 0 where
  pub itself : job ≡ 0
  pub waits : is_waiting one run stage facts ≡ true
  pub verdicts : List Verdict
  pub are : AreVerdictsOf facts moment told one run stage verdicts
  pub rule : Rule
  pub first : first_fail verdicts ≡ Some rule
  pub gets : event ≡ fail_end run stage rule
