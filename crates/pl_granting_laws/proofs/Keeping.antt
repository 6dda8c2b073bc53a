-- One fact more keeps histories orderly.
use Rattle.std.proofs.Common.{◌≡◌, ◌<◌, ◌&&◌, ℕ, Bool, true, false, List, [], ◌∷◌, ◌++◌, Option}
use Rattle.std.proofs.Common.{Some, None, is_some, if◌then◌else◌, length, refl, sym, ap, ◌∙◌}
use Rattle.std.proofs.Common.{◌⊎◌, subst, ⊎_elim}
use Rattle.std.specs.Option.{option_or}
use Rattle.std.proofs.lemmas.Bool.{true≢false}
use Rattle.std.proofs.lemmas.List.{append_assoc, append-nil}
use Rattle.std.proofs.lemmas.Option.{slice_get_within}
use Rattle.pl_base.specs.declared.outcome.Outcome.{Outcome}
use Rattle.pl_facts.specs.declared.fact.Event.{Event}
use Rattle.pl_facts.specs.declared.fact.Event.TheVariants as event
use Rattle.pl_facts.specs.declared.fact.Fact.{Fact}
use Rattle.pl_facts.specs.declared.fact.QueuedRun.{QueuedRun}
use Rattle.pl_journal.specs.About.{is_about, key_of}
use Rattle.pl_journal.specs.Kinds.{is_job_end, is_queueing, is_stage_end, is_start}
use Rattle.pl_journal.specs.Runs.{job_end, job_ending, queueing, run_told, skipping, stage_end}
use Rattle.pl_journal.specs.Runs.{stage_start}
use Rattle.pl_journal.specs.Settings.{by}
use Rattle.pl_log.specs.Keys.{Job, Run, Stage, same_key}
use Rattle.pl_log.proofs.Naming.{exact_key}
use Rattle.pl_plan.specs.declared.plan.PlanStage.{PlanStage}
use Rattle.pl_rules.specs.declared.rule.Rule.{Rule}
use Rattle.pl_granting.specs.Below.pl_views.specs.Ready.{job_has_ended}
use Rattle.pl_granting.specs.Below.pl_due.specs.Nodes.{has_done_all}
use Rattle.pl_granting.specs.Below.pl_due.proofs.OneStage.{one_planned}
use Rattle.pl_granting.specs.Below.pl_due.proofs.Ranges.{not_all}
use Rattle.pl_granting.specs.Below.pl_due.proofs.Standing.{first_of_two}
use Rattle.pl_granting.specs.Below.pl_settling.specs.Settles.{Adds}
use Rattle.pl_granting.specs.Below.pl_settling.proofs.Behind.{none_before, untouched}
use Rattle.pl_granting.specs.Grantable.{AreDone}
use Rattle.pl_granting.specs.Named.{IsJobOf, JobOf}
use Rattle.pl_granting.proofs.Places.{its_stage}
use Rattle.pl_granting_laws.specs.Histories.{AreOrderly, HasDoneAll, MayCome}
use Rattle.pl_granting_laws.proofs.Coming.{may_come}

-- ---- tests

not_that : (b : Bool) → (b && false) ≡ false
not_that true = refl
not_that false = refl

none_of : {X : Type 0} (o : Option X) → o ≡ None → is_some o ≡ false
none_of o is = ap is_some is

or_none : {X : Type 0} (a b : Option X) → option_or a b ≡ None → a ≡ None
or_none None b h = refl
or_none (Some x) b h = absurd (cc)

-- ---- a job of a stage that was started

ending_none : (run stage job : ℕ) (facts : List Fact) →
    (stage_start run stage facts ≡ None → ⊥) → job_end run stage job facts ≡ None →
    job_ending run stage job facts ≡ None
ending_none run stage job facts started end = go (stage_start run stage facts) refl
  where
    go : (o : Option Fact) → stage_start run stage facts ≡ o →
        job_ending run stage job facts ≡ None
    go None is = absurd (started is)
    go (Some start) is = ap (λ (o : Option Fact). option_or o (skipping run stage facts)) end
        ∙ ap (λ (o : Option Fact). if is_some o then None else stage_end run stage facts) is

-- where all jobs have ended, this one has
each_has : (facts : List Fact) (one : PlanStage) (run stage job : ℕ) → job < length one.jobs →
    has_done_all one run stage facts ≡ true → job_ending run stage job facts ≡ None → ⊥
each_has facts one run stage job within all none =
    let fails = not_all (job_has_ended run stage facts) job (length one.jobs) within
    (none_of (job_ending run stage job facts) none) in
    true≢false (sym all ∙ fails)

-- ---- one fact more

module _ (facts : List Fact) (one : Fact) where
  abbrev more : List Fact
  more = facts ++ one ∷ []

  -- what it tells of
  abbrev queues : ℕ → Bool
  queues run = is_about (Run run) one && is_queueing one.event

  abbrev starts : ℕ → ℕ → Bool
  starts run stage = is_about (Stage run stage) one && is_start one.event

  abbrev ends : ℕ → ℕ → Bool
  ends run stage = is_about (Stage run stage) one && is_stage_end one.event

  same_run : (run : ℕ) → queues run ≡ false → queueing run more ≡ queueing run facts
  same_run run lacks =
      untouched (λ fact. is_about (Run run) fact && is_queueing fact.event) facts one lacks

  same_start : (run stage : ℕ) → starts run stage ≡ false →
      stage_start run stage more ≡ stage_start run stage facts
  same_start run stage lacks =
      untouched (λ fact. is_about (Stage run stage) fact && is_start fact.event) facts one lacks

  same_end : (run stage : ℕ) → ends run stage ≡ false →
      stage_end run stage more ≡ stage_end run stage facts
  same_end run stage lacks = untouched
      (λ fact. is_about (Stage run stage) fact && is_stage_end fact.event) facts one lacks

  -- a job hadn't ended that hasn't now
  unended_before : (run stage job : ℕ) → (stage_start run stage facts ≡ None → ⊥) →
      job_ending run stage job more ≡ None → job_ending run stage job facts ≡ None
  unended_before run stage job started none = ending_none run stage job facts started
      (none_before (λ fact. is_about (Job run stage job) fact && is_job_end fact.event) facts one
      (or_none (job_end run stage job more) (skipping run stage more) none))

  -- ---- stages are started of queued runs alone

  abbrev OfRuns : List Fact → Type 0
  OfRuns all = (run stage : ℕ) → ¬ (stage_start run stage all ≡ None) →
      ¬ (queueing run all ≡ None)

  run_before : (run : ℕ) → queueing run more ≡ None → queueing run facts ≡ None
  run_before run none = none_before
      (λ fact. is_about (Run run) fact && is_queueing fact.event) facts one none

  still_of_runs : OfRuns facts →
      ((run stage : ℕ) → starts run stage ≡ true → queueing run facts ≡ None → ⊥) → OfRuns more
  still_of_runs of_runs queued = λ run stage started none. go run stage started none
      (starts run stage) refl
    where
      go : (run stage : ℕ) → (stage_start run stage more ≡ None → ⊥) →
          queueing run more ≡ None → (b : Bool) → starts run stage ≡ b → ⊥
      go run stage started none true is = queued run stage is (run_before run none)
      go run stage started none false is =
          of_runs run stage (λ n. started (same_start run stage is ∙ n)) (run_before run none)

  -- ---- a job of a stage that was started and has ended

  module _ (at : JobOf) (done : AreDone facts) where
    there_before : queues at.run ≡ false → IsJobOf more at → IsJobOf facts at
    there_before lacks there = record {
      queued = ap (by run_told) (sym (same_run at.run lacks)) ∙ there.queued;
      staged = there.staged;
      planned = there.planned;
    }

    -- it had been started and had ended, and its run is the one that was queued
    by_before : queues at.run ≡ false → starts at.run at.stage ≡ false →
        ends at.run at.stage ≡ false → IsJobOf more at →
        (stage_start at.run at.stage more ≡ None → ⊥) →
        (stage_end at.run at.stage more ≡ None → ⊥) →
        job_ending at.run at.stage at.job more ≡ None → ⊥
    by_before queue start end there started ended none =
        let was : stage_start at.run at.stage facts ≡ None → ⊥ =
        λ n. started (same_start at.run at.stage start ∙ n) in
        done at (there_before queue there) was
        (λ n. ended (same_end at.run at.stage end ∙ n))
        (unended_before at.run at.stage at.job was none)

    -- it ends now, and its jobs have all ended
    by_all : queues at.run ≡ false → starts at.run at.stage ≡ false →
        HasDoneAll facts at.run at.stage → IsJobOf more at →
        (stage_start at.run at.stage more ≡ None → ⊥) →
        job_ending at.run at.stage at.job more ≡ None → ⊥
    by_all queue start (told, planned, is, all) there started none =
        let was : stage_start at.run at.stage facts ≡ None → ⊥ =
        λ n. started (same_start at.run at.stage start ∙ n) in
        let same = one_planned facts at.run at.stage told at.queued planned at.staged is
        (its_stage facts at (there_before queue there)) in
        each_has facts at.staged at.run at.stage at.job
        (slice_get_within at.staged.jobs at.job at.planned there.planned)
        (ap (λ (s : PlanStage). has_done_all s at.run at.stage facts) (sym same) ∙ all)
        (unended_before at.run at.stage at.job was none)

-- ---- each kind of fact

-- it neither queues a run nor starts or ends a stage
pub record IsQuiet (told : Event) : Type 0 where
  pub queue : (run : ℕ) → (same_key (key_of told) (Run run) && is_queueing told) ≡ false
  pub start : (run stage : ℕ) → (same_key (key_of told) (Stage run stage) && is_start told) ≡ false
  pub end : (run stage : ℕ) →
      (same_key (key_of told) (Stage run stage) && is_stage_end told) ≡ false

module _ (facts : List Fact) (one : Fact) (orderly : AreOrderly facts) where
  keeps_quiet : IsQuiet one.event → AreOrderly (facts ++ one ∷ [])
  keeps_quiet quiet = record {
    of_runs = still_of_runs facts one orderly.of_runs
        (λ run stage is none. true≢false (sym is ∙ quiet.start run stage));
    done = λ at there started ended none.
        by_before facts one at orderly.done (quiet.queue at.run)
        (quiet.start at.run at.stage) (quiet.end at.run at.stage) there started ended none;
  }

  -- ---- a run that is queued under a number that none has

  module _ (told : QueuedRun) (e : one.event ≡ event.RunQueued told)
      (fresh : queueing told.run facts ≡ None) where
    queued_no_start : (run stage : ℕ) → starts facts one run stage ≡ false
    queued_no_start run stage = rw e refl

    queued_no_end : (run stage : ℕ) → ends facts one run stage ≡ false
    queued_no_end run stage = rw e refl

    queued_done : (at : JobOf) → IsJobOf (facts ++ one ∷ []) at →
        (stage_start at.run at.stage (facts ++ one ∷ []) ≡ None → ⊥) →
        (stage_end at.run at.stage (facts ++ one ∷ []) ≡ None → ⊥) →
        job_ending at.run at.stage at.job (facts ++ one ∷ []) ≡ None → (b : Bool) →
        same_key (Run told.run) (Run at.run) ≡ b → ⊥
    queued_done at there started ended none true is =
        let named : Run told.run ≡ Run at.run = exact_key (Run told.run) (Run at.run) is in
        let same : told.run ≡ at.run = cc in
        orderly.of_runs at.run at.stage
        (λ n. started (same_start facts one at.run at.stage (queued_no_start at.run at.stage) ∙ n))
        (subst (λ r. queueing r facts ≡ None) same fresh)
    queued_done at there started ended none false is =
        by_before facts one at orderly.done (rw e (ap (λ b. b && true) is))
        (queued_no_start at.run at.stage) (queued_no_end at.run at.stage) there started ended none

    keeps_queueing : AreOrderly (facts ++ one ∷ [])
    keeps_queueing = record {
      of_runs = still_of_runs facts one orderly.of_runs
          (λ run stage is none. true≢false (sym is ∙ queued_no_start run stage));
      done = λ at there started ended none.
          queued_done at there started ended none (same_key (Run told.run) (Run at.run)) refl;
    }

  -- ---- a stage that starts, of a queued run, and that hasn't ended

  module _ (run stage : ℕ) (e : one.event ≡ event.StageStarted run stage)
      (queued : queueing run facts ≡ None → ⊥) (still : stage_end run stage facts ≡ None) where
    started_no_end : (r s : ℕ) → ends facts one r s ≡ false
    started_no_end r s = rw e (not_that (same_key (Stage run stage) (Stage r s)))

    started_of_run : (r s : ℕ) → starts facts one r s ≡ true → queueing r facts ≡ None → ⊥
    started_of_run r s is none =
        let named : Stage run stage ≡ Stage r s = exact_key (Stage run stage) (Stage r s)
        (first_of_two (same_key (Stage run stage) (Stage r s)) true
        (sym (ap (λ t. same_key (key_of t) (Stage r s) && is_start t) e) ∙ is)) in
        let same : r ≡ run = cc in
        queued (subst (λ n. queueing n facts ≡ None) same none)

    started_done : (at : JobOf) → IsJobOf (facts ++ one ∷ []) at →
        (stage_start at.run at.stage (facts ++ one ∷ []) ≡ None → ⊥) →
        (stage_end at.run at.stage (facts ++ one ∷ []) ≡ None → ⊥) →
        job_ending at.run at.stage at.job (facts ++ one ∷ []) ≡ None → (b : Bool) →
        same_key (Stage run stage) (Stage at.run at.stage) ≡ b → ⊥
    started_done at there started ended none true is =
        let named : Stage run stage ≡ Stage at.run at.stage =
        exact_key (Stage run stage) (Stage at.run at.stage) is in
        let same_run : run ≡ at.run = cc in
        let same_stage : stage ≡ at.stage = cc in
        ended (same_end facts one at.run at.stage (started_no_end at.run at.stage)
        ∙ subst (λ s. stage_end at.run s facts ≡ None) same_stage
        (subst (λ r. stage_end r stage facts ≡ None) same_run still))
    started_done at there started ended none false is =
        by_before facts one at orderly.done (rw e refl) (rw e (ap (λ b. b && true) is))
        (started_no_end at.run at.stage) there started ended none

    keeps_start : AreOrderly (facts ++ one ∷ [])
    keeps_start = record {
      of_runs = still_of_runs facts one orderly.of_runs started_of_run;
      done = λ at there started ended none.
          started_done at there started ended none
          (same_key (Stage run stage) (Stage at.run at.stage)) refl;
    }

  -- ---- a stage that ends: it wasn't started, or its jobs have all ended

  module _ (run stage : ℕ) (outcome : Outcome) (rule : Option Rule)
      (e : one.event ≡ event.StageEnded run stage outcome rule)
      (may : (stage_start run stage facts ≡ None) ⊎ HasDoneAll facts run stage) where
    ended_no_start : (r s : ℕ) → starts facts one r s ≡ false
    ended_no_start r s = rw e (not_that (same_key (Stage run stage) (Stage r s)))

    may_end : (r s : ℕ) → Stage run stage ≡ Stage r s →
        (stage_start r s facts ≡ None) ⊎ HasDoneAll facts r s
    may_end r s named =
        let same_run : run ≡ r = cc in
        let same_stage : stage ≡ s = cc in
        subst (λ p. (stage_start r p facts ≡ None) ⊎ HasDoneAll facts r p) same_stage
        (subst (λ n. (stage_start n stage facts ≡ None) ⊎ HasDoneAll facts n stage) same_run may)

    ended_done : (at : JobOf) → IsJobOf (facts ++ one ∷ []) at →
        (stage_start at.run at.stage (facts ++ one ∷ []) ≡ None → ⊥) →
        (stage_end at.run at.stage (facts ++ one ∷ []) ≡ None → ⊥) →
        job_ending at.run at.stage at.job (facts ++ one ∷ []) ≡ None → (b : Bool) →
        same_key (Stage run stage) (Stage at.run at.stage) ≡ b → ⊥
    ended_done at there started ended none true is =
        let start = ended_no_start at.run at.stage in
        ⊎_elim (λ unstarted. started (same_start facts one at.run at.stage start ∙ unstarted))
        (λ all. by_all facts one at orderly.done (rw e refl) start all there started none)
        (may_end at.run at.stage (exact_key (Stage run stage) (Stage at.run at.stage) is))
    ended_done at there started ended none false is =
        by_before facts one at orderly.done (rw e refl) (ended_no_start at.run at.stage)
        (rw e (ap (λ b. b && true) is)) there started ended none

    keeps_end : AreOrderly (facts ++ one ∷ [])
    keeps_end = record {
      of_runs = still_of_runs facts one orderly.of_runs
          (λ r s is none. true≢false (sym is ∙ ended_no_start r s));
      done = λ at there started ended none.
          ended_done at there started ended none
          (same_key (Stage run stage) (Stage at.run at.stage)) refl;
    }

-- ---- whatever may come

module _ (facts : List Fact) (one : Fact) (orderly : AreOrderly facts) where
  quietly : (told : Event) → one.event ≡ told → IsQuiet told → AreOrderly (facts ++ one ∷ [])
  quietly told e quiet = keeps_quiet facts one orderly (subst IsQuiet (sym e) quiet)

  keeps_told : (told : Event) → one.event ≡ told → MayCome facts told →
      AreOrderly (facts ++ one ∷ [])
  keeps_told (event.RunQueued told) e fresh = keeps_queueing facts one orderly told e fresh
  keeps_told (event.StageStarted run stage) e (queued, still) =
      keeps_start facts one orderly run stage e queued still
  keeps_told (event.StageEnded run stage outcome rule) e may =
      keeps_end facts one orderly run stage outcome rule e may
  keeps_told (event.JobEnded outcome reported stage job run rule outputs) e may =
      quietly (event.JobEnded outcome reported stage job run rule outputs) e
      (record { queue = λ n. refl; start = λ r s. refl; end = λ r s. refl })
  keeps_told (event.JobTaken run stage job agent) e may =
      quietly (event.JobTaken run stage job agent) e
      (record { queue = λ n. refl; start = λ r s. refl; end = λ r s. refl })
  keeps_told (event.DecisionMade run stage approver approve) e may =
      quietly (event.DecisionMade run stage approver approve) e (record {
        queue = λ n. refl;
        start = λ r s. not_that (same_key (Stage run stage) (Stage r s));
        end = λ r s. not_that (same_key (Stage run stage) (Stage r s));
      })
  keeps_told (event.RunCanceled run) e may = quietly (event.RunCanceled run) e (record {
    queue = λ n. not_that (same_key (Run run) (Run n));
    start = λ r s. refl;
    end = λ r s. refl;
  })
  keeps_told (event.FilePut file) e may = quietly (event.FilePut file) e
      (record { queue = λ n. refl; start = λ r s. refl; end = λ r s. refl })
  keeps_told (event.FileRemoved key) e may = quietly (event.FileRemoved key) e
      (record { queue = λ n. refl; start = λ r s. refl; end = λ r s. refl })
  keeps_told (event.PipelineSet told) e may = quietly (event.PipelineSet told) e
      (record { queue = λ n. refl; start = λ r s. refl; end = λ r s. refl })
  keeps_told (event.ResourceSet told) e may = quietly (event.ResourceSet told) e
      (record { queue = λ n. refl; start = λ r s. refl; end = λ r s. refl })
  keeps_told (event.PrincipalSet told) e may = quietly (event.PrincipalSet told) e
      (record { queue = λ n. refl; start = λ r s. refl; end = λ r s. refl })
  keeps_told (event.AgentSet told) e may = quietly (event.AgentSet told) e
      (record { queue = λ n. refl; start = λ r s. refl; end = λ r s. refl })

  pub keeps : MayCome facts one.event → AreOrderly (facts ++ one ∷ [])
  keeps may = keeps_told one.event refl may

-- ---- along facts

pub none_yet : AreOrderly []
none_yet = record {
  of_runs = λ run stage started none. started refl;
  done = λ at there started ended none. started refl;
}

pub settling_keeps : (moment : ℕ) (facts added : List Fact) → Adds moment facts added →
    AreOrderly facts → AreOrderly (facts ++ added)
settling_keeps moment facts [] adds orderly = subst AreOrderly (sym (append-nil facts)) orderly
settling_keeps moment facts (one ∷ added) (due, at, rest) orderly =
    subst AreOrderly (append_assoc facts (one ∷ []) added)
    (settling_keeps moment (facts ++ one ∷ []) added rest
    (keeps facts one orderly (may_come facts moment one.event due)))
