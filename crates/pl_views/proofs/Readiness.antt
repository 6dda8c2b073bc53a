-- What is known of stages that are ready.
use Rattle.std.proofs.Common.{◌≡◌, ℕ, ◌≤◌, Bool, ◌&&◌, List, All, IfSome, is_none, arith}
use Rattle.pl_journal.specs.Below.pl_facts.specs.declared.fact.Fact.{Fact}
use Rattle.pl_journal.specs.About.{is_about}
use Rattle.pl_journal.specs.Kinds.{is_queueing, is_stage_end}
use Rattle.pl_log.specs.Keys.{Run, Stage}
use Rattle.pl_log.specs.Latest.{latest}
use Rattle.pl_plan.specs.declared.plan.PlanJob.{PlanJob}
use Rattle.pl_plan.specs.declared.plan.PlanStage.{PlanStage}
use Rattle.pl_views.specs.Ready.{NeverFall, awaited_job, awaited_stage, has_ended, is_ready}
use Rattle.pl_views.specs.Ready.{job_has_ended, job_is_ready, later, makes_ready, ready_moment}
use Rattle.pl_views.proofs.Moments.{all_or_found, fold_bound, later_bound, latest_holds}
use Rattle.pl_views.proofs.Moments.{latest_of_all}

pub ready_or_awaits : (planned : PlanStage) (run : ℕ) (facts : List Fact) →
    is_ready planned run facts ≡ is_none (awaited_stage planned run facts)
ready_or_awaits planned run facts = all_or_found (has_ended run facts) planned.depends

pub job_ready_or_awaits : (planned : PlanJob) (run stage : ℕ) (facts : List Fact) →
    job_is_ready planned run stage facts ≡ is_none (awaited_job planned run stage facts)
job_ready_or_awaits planned run stage facts =
    all_or_found (job_has_ended run stage facts) planned.depends

-- no later than all facts are
pub ready_within : (planned : PlanStage) (run moment : ℕ) (facts : List Fact) →
    All (λ fact. fact.moment ≤ moment) facts → ready_moment planned run facts ≤ moment
ready_within planned run moment facts all =
    let bound : (test : Fact → Bool) → IfSome (latest test facts) (λ fact. fact.moment ≤ moment) =
    λ test. latest_holds (λ fact. fact.moment ≤ moment) test facts all in
    let queued : Fact → Bool = λ fact. is_about (Run run) fact && is_queueing fact.event in
    let ends : ℕ → Fact → Bool =
    λ stage fact. is_about (Stage run stage) fact && is_stage_end fact.event in
    fold_bound moment (λ stage. latest (ends stage) facts) (λ stage. bound (ends stage))
    planned.depends
    (later 0 (latest queued facts)) (later_bound 0 moment (latest queued facts) (omega arith)
    (bound queued))

-- where moments never fall, the moment of the latest fact that makes the stage ready
pub ready_by_latest : (planned : PlanStage) (run : ℕ) (facts : List Fact) → NeverFall facts →
    ready_moment planned run facts ≡ later 0 (latest (makes_ready planned run) facts)
ready_by_latest planned run facts up =
    latest_of_all (λ fact. is_about (Run run) fact && is_queueing fact.event)
    (λ stage fact. is_about (Stage run stage) fact && is_stage_end fact.event) facts planned.depends
    up
