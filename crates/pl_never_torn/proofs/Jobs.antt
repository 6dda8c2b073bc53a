-- The jobs of a legal history are in time.
use Rattle.std.proofs.Common.{◌≡◌, ◌≤◌, ◌&&◌, ◌||◌, ℕ, Bool, true, false, true≢false, List, [], ◌∷◌}
use Rattle.std.proofs.Common.{◌++◌, Option, Some, None, refl, sym, ap, subst, ◌∙◌, arith, inl, inr}
use Rattle.std.specs.List.{list_all, AllByRecursion}
use Rattle.std.specs.Option.{option_and_then, option_map, option_or}
use Rattle.std.specs.Prelude.{is_none, is_some, slice_get, unwrap_or, if◌then◌else◌}
use Rattle.pl_changes.proofs.Leading.{none_some}
use Rattle.pl_facts.specs.declared.entry.Entry.{Entry}
use Rattle.pl_facts.specs.declared.fact.Event.{Event}
use Rattle.pl_facts.specs.declared.fact.Event.TheVariants as event
use Rattle.pl_facts.specs.declared.fact.Fact.{Fact}
use Rattle.pl_facts.specs.declared.fact.QueuedRun.{QueuedRun}
use Rattle.pl_plan.specs.declared.plan.PlanJob.{PlanJob}
use Rattle.pl_plan.specs.declared.plan.PlanStage.{PlanStage}
use Rattle.pl_history.specs.Claims.{IsOrderly}
use Rattle.pl_history.specs.History.{Opening, log_of}
use Rattle.pl_history.specs.Legal.{Legal}
use Rattle.pl_history.proofs.Keeping.{Sound}
use Rattle.pl_granting.specs.Below.pl_due.proofs.Standing.{first_of_two, second_of_two}
use Rattle.pl_granting.specs.Below.pl_due.specs.Due.{Among, IsDue, Next, Superseded}
use Rattle.pl_granting.specs.Below.pl_due.specs.Kinds.{Fails, IsDone, IsPassedOver, JobIsPassedOver}
use Rattle.pl_granting.specs.Below.pl_due.specs.Kinds.{TimesOut}
use Rattle.pl_granting.specs.Below.pl_due.specs.Least.{IsLeastOf}
use Rattle.pl_granting.specs.Below.pl_due.specs.Nodes.{is_running}
use Rattle.pl_granting.specs.Named.{IsJobOf, JobOf}
use Rattle.pl_granting.specs.Rules.{ended}
use Rattle.pl_granting.specs.Below.pl_settling.proofs.Behind.{touched, untouched}
use Rattle.pl_granting.specs.Below.pl_settling.proofs.Giving.{gives}
use Rattle.pl_granting.specs.Below.pl_settling.specs.Gives.{Gives}
use Rattle.pl_views.specs.Ready.{job_has_ended}
use Rattle.pl_history.specs.Below.pl_step.specs.Below.pl_jobs.specs.Reports.{reported_told}
use Rattle.pl_history.specs.Below.pl_queueing.specs.Queueing.{Made}
use Rattle.pl_journal.specs.About.{is_about, key_of}
use Rattle.pl_journal.specs.Kinds.{is_job_end, is_taking}
use Rattle.pl_journal.specs.Log.{Log}
use Rattle.pl_journal.specs.Runs.{job_end, job_ending, outcome_told, queueing, rule_told, run_told}
use Rattle.pl_journal.specs.Runs.{skipping}
use Rattle.pl_journal.specs.Runs.{stage_end, stage_start, taking}
use Rattle.pl_journal.specs.Settings.{by}
use Rattle.pl_kept.specs.Kept.{planned_job}
use Rattle.pl_log.proofs.Naming.{exact_key}
use Rattle.pl_log.specs.Keys.{same_key}
use Rattle.pl_log.specs.Keys as key
use Rattle.pl_log.specs.Latest.{latest}
use Rattle.pl_never_torn.specs.Jobs.{AreJobsInTime, AreSaid, IsSaid, JobHadEnded}
use Rattle.pl_never_torn.specs.Rising.{NoneLater}
use Rattle.pl_never_torn.proofs.Deciding.{Fresh, asked_fresh, due_fresh, queueing_stays}
use Rattle.pl_never_torn.proofs.Deciding.{sound_keeps}
use Rattle.pl_never_torn.proofs.Late.{latest_has}
use Rattle.pl_never_torn.proofs.Naming.{passes}
use Rattle.pl_never_torn.proofs.Rising.{joined}
use Rattle.pl_never_torn.proofs.Stages.{starts}
use Rattle.pl_never_torn.proofs.Staying.{Before, Keeps, Laws, stays}
use Rattle.pl_never_torn.proofs.Telling.{IsReportedSo, IsTakenSo, Tells}

abbrev pub takes : ℕ → ℕ → ℕ → Fact → Bool
takes run stage job fact = is_about (key.Job run stage job) fact && is_taking fact.event

abbrev pub job_ends : ℕ → ℕ → ℕ → Fact → Bool
job_ends run stage job fact = is_about (key.Job run stage job) fact && is_job_end fact.event

-- ---- what a fact tells of the job that it takes or ends

-- in a stage that was started it hasn't ended, and all that it waits for has
record IsOpen (facts : List Fact) (run stage job : ℕ) : Type 0 where
  unended : job_end run stage job facts ≡ None
  begun : ¬ (stage_start run stage facts ≡ None)
  planned : PlanJob
  there : planned_job run stage job facts ≡ Some planned
  ready : AllByRecursion (λ other. is_some (job_end run stage other facts) ≡ true) planned.depends

record EndsSo (facts : List Fact) (run stage job : ℕ) : Type 0 where
  unended : job_end run stage job facts ≡ None
  begun : ¬ (stage_start run stage facts ≡ None)

record Works (facts : List Fact) (one : Fact) : Type 0 where
  fresh : Fresh facts one.event
  take : (run stage job : ℕ) → takes run stage job one ≡ true → IsOpen facts run stage job
  end : (run stage job : ℕ) → job_ends run stage job one ≡ true → EndsSo facts run stage job

-- ---- the job of a fact

abbrev OfIts : (ℕ → ℕ → ℕ → Type 0) → Event → Type 0
OfIts P (event.JobTaken run stage job agent) = P run stage job
OfIts P (event.JobEnded outcome reported stage job run rule outputs) = P run stage job
OfIts P _ = Unit {0}

pub moved : (P : ℕ → ℕ → ℕ → Type 0) (a b c r s j : ℕ) →
    same_key (key.Job a b c) (key.Job r s j) ≡ true → P a b c → P r s j
moved P a b c r s j is p =
    let e : key.Job a b c ≡ key.Job r s j = exact_key (key.Job a b c) (key.Job r s j) is in
    let l : a ≡ r = cc in
    let m : b ≡ s = cc in
    let n : c ≡ j = cc in
    subst (λ x. P x s j) l (subst (λ x. P a x j) m (subst (λ x. P a b x) n p))

taken_of : (P : ℕ → ℕ → ℕ → Type 0) (run stage job : ℕ) (told : Event) →
    (same_key (key_of told) (key.Job run stage job) && is_taking told) ≡ true → OfIts P told →
    P run stage job
taken_of P run stage job (event.JobTaken r s j agent) is p = moved P r s j run stage job
    (first_of_two (same_key (key.Job r s j) (key.Job run stage job)) true is) p
taken_of P run stage job told is p = absurd (true≢false (sym
    (second_of_two (same_key (key_of told) (key.Job run stage job)) (is_taking told) is)))

ended_of : (P : ℕ → ℕ → ℕ → Type 0) (run stage job : ℕ) (told : Event) →
    (same_key (key_of told) (key.Job run stage job) && is_job_end told) ≡ true → OfIts P told →
    P run stage job
ended_of P run stage job (event.JobEnded outcome reported s j r rule outputs) is p =
    moved P r s j run stage job
    (first_of_two (same_key (key.Job r s j) (key.Job run stage job)) true is) p
ended_of P run stage job told is p = absurd (true≢false (sym
    (second_of_two (same_key (key_of told) (key.Job run stage job)) (is_job_end told) is)))

-- ---- what is due

running_begun : (run stage : ℕ) (facts : List Fact) → is_running run stage facts ≡ true →
    ¬ (stage_start run stage facts ≡ None)
running_begun run stage facts runs none = true≢false (sym
    (first_of_two (is_some (stage_start run stage facts)) (is_none (stage_end run stage facts))
    runs) ∙ ap is_some none)

-- a job ends in a running stage, by a rule
abbrev DueJob : List Fact → Event → Type 0
DueJob facts (event.JobEnded outcome reported stage job run rule outputs) =
    (is_running run stage facts ≡ true) × (is_some rule ≡ true)
DueJob facts _ = Unit {0}

module _ (facts : List Fact) (moment : ℕ) (told : Event) where
  by_timeout : IsLeastOf facts (TimesOut facts moment) told → DueJob facts told
  by_timeout least = let (queued, one, there, is) = least.is in
      subst (DueJob facts) (sym is.gets) (is.runs, refl)

  by_false_job : IsLeastOf facts (JobIsPassedOver facts) told → DueJob facts told
  by_false_job least = let (queued, one, there, is) = least.is in
      subst (DueJob facts) (sym is.gets) (is.runs, refl)

  by_done : IsLeastOf facts (IsDone facts) told → DueJob facts told
  by_done least = let (queued, one, there, is) = least.is in
      subst (DueJob facts) (sym is.gets) tt

  by_false : IsLeastOf facts (IsPassedOver facts) told → DueJob facts told
  by_false least = let (queued, one, there, is) = least.is in
      subst (DueJob facts) (sym is.gets) tt

  by_fail : IsLeastOf facts (Fails facts moment) told → DueJob facts told
  by_fail least = let (queued, one, there, is) = least.is in
      subst (DueJob facts) (sym is.gets) tt

  by_superseded : Among facts moment Superseded (Some told) → DueJob facts told
  by_superseded (locks, contention, is) = subst (DueJob facts) (sym is.gets) tt

  by_next : Among facts moment Next (Some told) → DueJob facts told
  by_next (locks, contention, is) = subst (DueJob facts) (sym is.gets) tt

same_event : (facts : List Fact) (a b : Event) → Some a ≡ Some b → DueJob facts b →
    DueJob facts a
same_event facts a b is due = let e : a ≡ b = cc in subst (DueJob facts) (sym e) due

due_job : (facts : List Fact) (moment : ℕ) (told : Event) → IsDue facts moment (Some told) →
    DueJob facts told
due_job f m e (inl (x, is, k)) = same_event f e x is (by_timeout f m x k)
due_job f m e (inr (n1, inl (x, is, k))) = same_event f e x is (by_false_job f m x k)
due_job f m e (inr (n1, inr (n2, inl (x, is, k)))) = same_event f e x is (by_done f m x k)
due_job f m e (inr (n1, inr (n2, inr (n3, inl (x, is, k))))) =
    same_event f e x is (by_false f m x k)
due_job f m e (inr (n1, inr (n2, inr (n3, inr (n4, inl (x, is, k)))))) =
    same_event f e x is (by_fail f m x k)
due_job f m e (inr (n1, inr (n2, inr (n3, inr (n4, inr (n5, inl (x, is, k))))))) =
    same_event f e x is (by_superseded f m x k)
due_job f m e (inr (n1, inr (n2, inr (n3, inr (n4, inr (n5, inr (n6, inl (x, is, k)))))))) =
    same_event f e x is (by_next f m x k)
due_job f m e (inr (n1, inr (n2, inr (n3, inr (n4, inr (n5, inr (n6, inr (n7, none)))))))) =
    absurd (cc)

due_take : (facts : List Fact) (moment : ℕ) (told : Event) → Gives facts moment told →
    (run stage job : ℕ) →
    (same_key (key_of told) (key.Job run stage job) && is_taking told) ≡ true →
    IsOpen facts run stage job
due_take facts moment (event.JobTaken r s j agent) none run stage job is = absurd none
due_take facts moment told none run stage job is = absurd (true≢false (sym
    (second_of_two (same_key (key_of told) (key.Job run stage job)) (is_taking told) is)))

due_end : (facts : List Fact) (moment : ℕ) (told : Event) → Gives facts moment told →
    DueJob facts told → (run stage job : ℕ) →
    (same_key (key_of told) (key.Job run stage job) && is_job_end told) ≡ true →
    EndsSo facts run stage job
due_end facts moment (event.JobEnded outcome reported s j r rule outputs) none due run stage job
    is =
    ended_of (EndsSo facts) run stage job (event.JobEnded outcome reported s j r rule outputs) is
    (record { unended = none; begun = running_begun r s facts due.0 })
due_end facts moment told none due run stage job is = absurd (true≢false (sym
    (second_of_two (same_key (key_of told) (key.Job run stage job)) (is_job_end told) is)))

due_said : (facts : List Fact) (told : Event) → DueJob facts told → IsSaid told
due_said facts (event.JobEnded outcome reported stage job run rule outputs) due =
    any_of (is_some reported) (is_some rule) due.1
  where
    any_of : (a b : Bool) → b ≡ true → (a || b) ≡ true
    any_of true b e = refl
    any_of false b e = e
due_said facts _ due = tt

-- ---- what happens by a request

or_none : {X : Type 0} (a b : Option X) → option_or a b ≡ None → a ≡ None
or_none None b h = refl
or_none (Some x) b h = h

unended_of : (run stage job : ℕ) (facts : List Fact) → job_ending run stage job facts ≡ None →
    job_end run stage job facts ≡ None
unended_of run stage job facts h =
    or_none (job_end run stage job facts) (skipping run stage facts) h

-- in a stage that was started a job ends by its own end
pub own_end : (run stage job : ℕ) (facts : List Fact) → is_some (stage_start run stage facts) ≡ true
    →
    job_ending run stage job facts ≡ job_end run stage job facts
own_end run stage job facts begun =
    ap (λ (b : Bool). option_or (job_end run stage job facts)
    (if b then None else stage_end run stage facts)) begun
    ∙ or_nothing (job_end run stage job facts)
  where
    or_nothing : (o : Option Fact) → option_or o None ≡ o
    or_nothing None = refl
    or_nothing (Some x) = refl

all_ended : (run stage : ℕ) (facts : List Fact) → is_some (stage_start run stage facts) ≡ true →
    (jobs : List ℕ) → list_all (job_has_ended run stage facts) jobs ≡ true →
    AllByRecursion (λ other. is_some (job_end run stage other facts) ≡ true) jobs
all_ended run stage facts begun [] ready = tt
all_ended run stage facts begun (job ∷ jobs) ready = (
  sym (ap is_some (own_end run stage job facts begun))
      ∙ first_of_two (job_has_ended run stage facts job)
      (list_all (job_has_ended run stage facts) jobs) ready,
  all_ended run stage facts begun jobs (second_of_two (job_has_ended run stage facts job)
      (list_all (job_has_ended run stage facts) jobs) ready),
)

pub job_planned : (facts : List Fact) (at : JobOf) → IsJobOf facts at →
    planned_job at.run at.stage at.job facts ≡ Some at.planned
job_planned facts at is =
    ap (λ (o : Option QueuedRun). option_and_then
    (λ (staged : PlanStage). slice_get staged.jobs at.job)
    (option_and_then (λ (told : QueuedRun). slice_get told.compiled.plan.stages at.stage) o))
    is.queued
    ∙ (ap (option_and_then (λ (staged : PlanStage). slice_get staged.jobs at.job)) is.staged
    ∙ is.planned)

open_of : (facts : List Fact) (run stage job : ℕ) (agent : List ℕ) →
    IsTakenSo facts run stage job agent → IsOpen facts run stage job
open_of facts run stage job agent is =
    subst (λ x. IsOpen facts x stage job) is.of_run (subst (λ x. IsOpen facts is.at.run x job)
    is.of_stage (subst (λ x. IsOpen facts is.at.run is.at.stage x) is.of_job itself))
  where
    begun : is_some (stage_start is.at.run is.at.stage facts) ≡ true
    begun = first_of_two (is_some (stage_start is.at.run is.at.stage facts))
        (is_none (stage_end is.at.run is.at.stage facts)) is.free.runs

    itself : IsOpen facts is.at.run is.at.stage is.at.job
    itself = record {
      unended = unended_of is.at.run is.at.stage is.at.job facts is.free.unended;
      begun = running_begun is.at.run is.at.stage facts is.free.runs;
      planned = is.at.planned;
      there = job_planned facts is.at is.there;
      ready = all_ended is.at.run is.at.stage facts begun is.at.planned.depends is.free.job_ready;
    }

asked_take : (log : Log) (made : Made) (told : Event) → Tells log made told →
    (run stage job : ℕ) →
    (same_key (key_of told) (key.Job run stage job) && is_taking told) ≡ true →
    IsOpen log.facts run stage job
asked_take log made (event.JobTaken r s j agent) so run stage job is =
    taken_of (IsOpen log.facts) run stage job (event.JobTaken r s j agent) is
    (open_of log.facts r s j agent so)
asked_take log made told so run stage job is = absurd (true≢false (sym
    (second_of_two (same_key (key_of told) (key.Job run stage job)) (is_taking told) is)))

-- an end of which nothing was reported, and that no rule made, isn't there
end_said : (told : Event) → is_job_end told ≡ true → IsSaid told → reported_told told ≡ None →
    is_some (rule_told told) ≡ true
end_said (event.JobEnded outcome reported stage job run rule outputs) is said none =
    sym (ap (λ (o : Option _). is_some o || is_some rule) none) ∙ said
end_said _ is said none = absurd (true≢false (sym is))

pub map_none : {X Y : Type 0} (f : X → Y) (o : Option X) → option_map f o ≡ None → o ≡ None
map_none f None e = refl
map_none f (Some x) e = absurd (none_some (Some (f x)) (f x) e refl)

ended_there : (told : Event) → is_job_end told ≡ true → ¬ (outcome_told told ≡ None)
ended_there (event.JobEnded outcome reported stage job run rule outputs) is none =
    none_some (Some outcome) outcome none refl
ended_there _ is none = absurd (true≢false (sym is))

module _ (facts : List Fact) (said : AreSaid facts) (jobs : AreJobsInTime facts) where
  never_ended : (at : JobOf) → by reported_told (job_end at.run at.stage at.job facts) ≡ None →
      (if is_some (by rule_told (job_ending at.run at.stage at.job facts)) then ended facts at
      else None) ≡ None → job_end at.run at.stage at.job facts ≡ None
  never_ended at unreported unended = go (job_end at.run at.stage at.job facts) refl where
    go : (o : Option Fact) → job_end at.run at.stage at.job facts ≡ o →
        job_end at.run at.stage at.job facts ≡ None
    go None e = e
    go (Some fact) e =
        let test = job_ends at.run at.stage at.job in
        let kind : is_job_end fact.event ≡ true = second_of_two
        (is_about (key.Job at.run at.stage at.job) fact) (is_job_end fact.event)
        (passes test facts fact e) in
        let silent : reported_told fact.event ≡ None =
        sym (ap (by reported_told) e) ∙ unreported in
        let ruled : is_some (rule_told fact.event) ≡ true = end_said fact.event kind
        (latest_has (λ (it : Fact). IsSaid it.event) test facts fact said e) silent in
        let ending : job_ending at.run at.stage at.job facts ≡ Some fact =
        ap (λ (o : Option Fact). option_or o (skipping at.run at.stage facts)) e in
        let rule_there : is_some (by rule_told (job_ending at.run at.stage at.job facts)) ≡ true =
        ap (λ (o : Option Fact). is_some (by rule_told o)) ending ∙ ruled in
        let none : ended facts at ≡ None =
        sym (ap (λ (b : Bool). if b then ended facts at else None) rule_there) ∙ unended in
        let nothing : by outcome_told (job_ending at.run at.stage at.job facts) ≡ None =
        map_none _ (by outcome_told (job_ending at.run at.stage at.job facts)) none in
        absurd (ended_there fact.event kind
        (sym (ap (λ (o : Option Fact). by outcome_told o) ending) ∙ nothing))

  reported_ends : (run stage job : ℕ) → IsReportedSo facts run stage job →
      EndsSo facts run stage job
  reported_ends run stage job is =
      subst (λ x. EndsSo facts x stage job) is.of_run (subst (λ x. EndsSo facts is.at.run x job)
      is.of_stage (subst (λ x. EndsSo facts is.at.run is.at.stage x) is.of_job (record {
        unended = never_ended is.at is.unreported is.unended;
        begun = jobs.taken is.at.run is.at.stage is.at.job is.taken;
      })))

asked_end : (log : Log) (made : Made) → AreSaid log.facts → AreJobsInTime log.facts →
    (told : Event) → Tells log made told → (run stage job : ℕ) →
    (same_key (key_of told) (key.Job run stage job) && is_job_end told) ≡ true →
    EndsSo log.facts run stage job
asked_end log made said jobs (event.JobEnded outcome reported s j r rule outputs) so run stage job
    is =
    ended_of (EndsSo log.facts) run stage job
    (event.JobEnded outcome reported s j r rule outputs) is
    (reported_ends log.facts said jobs r s j so.1)
asked_end log made said jobs told so run stage job is = absurd (true≢false (sym
    (second_of_two (same_key (key_of told) (key.Job run stage job)) (is_job_end told) is)))

asked_said : (log : Log) (made : Made) (told : Event) → Tells log made told → IsSaid told
asked_said log made (event.JobEnded outcome reported stage job run rule outputs) so =
    ap (λ (b : Bool). b || is_some rule) so.0
asked_said log made _ so = tt

-- ---- behind one fact more

pub the_same : {X : Type 0} (o : Option X) (x y : X) → o ≡ Some x → o ≡ Some y → x ≡ y
the_same {X} o x y e f = ap (λ (it : Option X). unwrap_or it x) (sym e ∙ f)

module _ (facts : List Fact) (one : Fact) (works : Works facts one)
    (before : Before one.moment facts) where
  early : (test : Fact → Bool) (fact : Fact) → latest test facts ≡ Some fact →
      fact.moment ≤ one.moment
  early test fact e = latest_has (λ (it : Fact). it.moment ≤ one.moment) test facts fact before e

  -- a stage that was started stays so
  still_begun : (run stage : ℕ) → ¬ (stage_start run stage facts ≡ None) →
      ¬ (stage_start run stage (facts ++ one ∷ []) ≡ None)
  still_begun run stage was none = go (starts run stage one) refl where
    go : (b : Bool) → starts run stage one ≡ b → ⊥
    go true is = none_some (stage_start run stage (facts ++ one ∷ [])) one none
        (touched (starts run stage) facts one is)
    go false is = was (sym (untouched (starts run stage) facts one is) ∙ none)

  -- what has ended has ended so
  had_ended : (moment run stage job : ℕ) → JobHadEnded facts moment run stage job →
      JobHadEnded (facts ++ one ∷ []) moment run stage job
  had_ended moment run stage job had = record {
    end = had.end;
    is = still (job_ends run stage job one) refl;
    before = had.before;
  }
    where
      still : (b : Bool) → job_ends run stage job one ≡ b →
          job_end run stage job (facts ++ one ∷ []) ≡ Some had.end
      still true is = absurd (none_some (job_end run stage job facts) had.end
          (works.end run stage job is).unended had.is)
      still false is = untouched (job_ends run stage job) facts one is ∙ had.is

  all_had_ended : (moment run stage : ℕ) (jobs : List ℕ) →
      AllByRecursion (JobHadEnded facts moment run stage) jobs →
      AllByRecursion (JobHadEnded (facts ++ one ∷ []) moment run stage) jobs
  all_had_ended moment run stage [] had = tt
  all_had_ended moment run stage (job ∷ jobs) had =
      (had_ended moment run stage job had.0, all_had_ended moment run stage jobs had.1)

  ready_ended : (run stage : ℕ) (jobs : List ℕ) →
      AllByRecursion (λ other. is_some (job_end run stage other facts) ≡ true) jobs →
      AllByRecursion (JobHadEnded facts one.moment run stage) jobs
  ready_ended run stage [] ready = tt
  ready_ended run stage (job ∷ jobs) ready =
      (this (job_end run stage job facts) refl ready.0, ready_ended run stage jobs ready.1)
    where
      this : (o : Option Fact) → job_end run stage job facts ≡ o →
          is_some (job_end run stage job facts) ≡ true → JobHadEnded facts one.moment run stage job
      this None e some = absurd (true≢false (sym some ∙ ap is_some e))
      this (Some fact) e some =
          record { end = fact; is = e; before = early (job_ends run stage job) fact e }

  -- what is planned of a queued run stays planned
  job_stays : (run stage job : ℕ) → ¬ (queueing run facts ≡ None) →
      planned_job run stage job (facts ++ one ∷ []) ≡ planned_job run stage job facts
  job_stays run stage job queued =
      ap (λ (o : Option Fact). option_and_then (λ (staged : PlanStage). slice_get staged.jobs job)
      (option_and_then (λ (told : QueuedRun). slice_get told.compiled.plan.stages stage)
      (by run_told o))) (queueing_stays facts one works.fresh run queued)

  module _ (queued : (run stage : ℕ) → ¬ (stage_start run stage facts ≡ None) →
      ¬ (queueing run facts ≡ None)) (was : AreJobsInTime facts) where
    taken_more : (run stage job : ℕ) → ¬ (taking run stage job (facts ++ one ∷ []) ≡ None) →
        ¬ (stage_start run stage (facts ++ one ∷ []) ≡ None)
    taken_more run stage job there =
        still_begun run stage (go (takes run stage job one) refl)
      where
        go : (b : Bool) → takes run stage job one ≡ b → ¬ (stage_start run stage facts ≡ None)
        go true is = (works.take run stage job is).begun
        go false is = was.taken run stage job
            (λ none. there (untouched (takes run stage job) facts one is ∙ none))

    ended_more : (run stage job : ℕ) → ¬ (job_end run stage job (facts ++ one ∷ []) ≡ None) →
        ¬ (stage_start run stage (facts ++ one ∷ []) ≡ None)
    ended_more run stage job there =
        still_begun run stage (go (job_ends run stage job one) refl)
      where
        go : (b : Bool) → job_ends run stage job one ≡ b → ¬ (stage_start run stage facts ≡ None)
        go true is = (works.end run stage job is).begun
        go false is = was.ended run stage job
            (λ none. there (untouched (job_ends run stage job) facts one is ∙ none))

    ends_more : (run stage job : ℕ) (take end : Fact) →
        taking run stage job (facts ++ one ∷ []) ≡ Some take →
        job_end run stage job (facts ++ one ∷ []) ≡ Some end → take.moment ≤ end.moment
    ends_more run stage job take end e f =
        go (takes run stage job one) refl (job_ends run stage job one) refl
      where
        go : (a : Bool) → takes run stage job one ≡ a → (b : Bool) →
            job_ends run stage job one ≡ b → take.moment ≤ end.moment
        go true a true b =
            let left : one ≡ take = the_same (taking run stage job (facts ++ one ∷ [])) one take
            (touched (takes run stage job) facts one a) e in
            let right : one ≡ end = the_same (job_end run stage job (facts ++ one ∷ [])) one end
            (touched (job_ends run stage job) facts one b) f in
            let m : take.moment ≡ end.moment = ap (λ (it : Fact). it.moment) (sym left ∙ right) in
            omega (arith, m)
        go false a true b =
            let right : one ≡ end = the_same (job_end run stage job (facts ++ one ∷ [])) one end
            (touched (job_ends run stage job) facts one b) f in
            let m : one.moment ≡ end.moment = ap (λ (it : Fact). it.moment) right in
            let n = early (takes run stage job) take
            (sym (untouched (takes run stage job) facts one a) ∙ e) in
            omega (arith, m, n)
        go true a false b =
            absurd (none_some (job_end run stage job facts) end
            (works.take run stage job a).unended
            (sym (untouched (job_ends run stage job) facts one b) ∙ f))
        go false a false b = was.ends run stage job take end
            (sym (untouched (takes run stage job) facts one a) ∙ e)
            (sym (untouched (job_ends run stage job) facts one b) ∙ f)

    waits_more : (run stage job : ℕ) (planned : PlanJob) (take : Fact) →
        planned_job run stage job (facts ++ one ∷ []) ≡ Some planned →
        taking run stage job (facts ++ one ∷ []) ≡ Some take →
        AllByRecursion (JobHadEnded (facts ++ one ∷ []) take.moment run stage) planned.depends
    waits_more run stage job planned take p e = go (takes run stage job one) refl where
      go : (a : Bool) → takes run stage job one ≡ a →
          AllByRecursion (JobHadEnded (facts ++ one ∷ []) take.moment run stage) planned.depends
      go true a =
          let ready = works.take run stage job a in
          let this : one ≡ take = the_same (taking run stage job (facts ++ one ∷ [])) one take
          (touched (takes run stage job) facts one a) e in
          let its : ready.planned ≡ planned =
          the_same (planned_job run stage job (facts ++ one ∷ [])) ready.planned planned
          (job_stays run stage job (queued run stage ready.begun) ∙ ready.there) p in
          subst (λ (it : Fact). AllByRecursion (JobHadEnded (facts ++ one ∷ []) it.moment run stage)
          planned.depends) this
          (subst (λ (it : PlanJob). AllByRecursion
          (JobHadEnded (facts ++ one ∷ []) one.moment run stage) it.depends) its
          (all_had_ended one.moment run stage ready.planned.depends
          (ready_ended run stage ready.planned.depends ready.ready)))
      go false a =
          let taken : taking run stage job facts ≡ Some take =
          sym (untouched (takes run stage job) facts one a) ∙ e in
          let begun = was.taken run stage job
          (λ none. none_some (taking run stage job facts) take none taken) in
          let its : planned_job run stage job facts ≡ Some planned =
          sym (job_stays run stage job (queued run stage begun)) ∙ p in
          all_had_ended take.moment run stage planned.depends
          (was.waits run stage job planned take its taken)

    jobs_more : AreJobsInTime (facts ++ one ∷ [])
    jobs_more = record {
      taken = taken_more;
      ended = ended_more;
      ends = ends_more;
      waits = waits_more;
    }

-- ---- along a legal history

abbrev pub JobsInTime : Log → Type 0
JobsInTime log = Sound log × AreSaid log.facts × AreJobsInTime log.facts

said_more : (facts : List Fact) (one : Fact) → AreSaid facts → IsSaid one.event →
    AreSaid (facts ++ one ∷ [])
said_more facts one said here =
    joined (λ (fact : Fact). IsSaid fact.event) facts (one ∷ []) said (here, tt)

pub jobs_keep : Keeps JobsInTime
jobs_keep = record {
  due = λ log one before is_due was.
      let given = gives log.facts one.moment one.event is_due in
      let job = due_job log.facts one.moment one.event is_due in (
        sound_keeps.due log one before is_due was.0,
        said_more log.facts one was.1 (due_said log.facts one.event job),
        jobs_more log.facts one (record {
          fresh = due_fresh log.facts one.moment one.event given;
          take = due_take log.facts one.moment one.event given;
          end = due_end log.facts one.moment one.event given job;
        }) before was.0.queued was.2,
      );
  asked = λ log made one has before few tells was. (
    sound_keeps.asked log made one has before few tells was.0,
    said_more log.facts one was.1 (asked_said log made one.event tells),
    jobs_more log.facts one (record {
      fresh = asked_fresh log made one few was.0 one.event refl tells;
      take = asked_take log made one.event tells;
      end = asked_end log made was.1 was.2 one.event tells;
    }) before was.0.queued was.2,
  );
  installed = λ log count was. (sound_keeps.installed log count was.0, was.1, was.2);
}

pub jobs_all : Laws → (opening : Opening) (entries : List Entry) → IsOrderly opening →
    NoneLater (log_of opening []) → JobsInTime (log_of opening []) → Legal opening entries →
    JobsInTime (log_of opening entries)
jobs_all laws opening entries first later was legal =
    stays laws JobsInTime jobs_keep opening entries first later was legal
