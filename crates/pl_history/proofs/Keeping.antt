-- How a history stays sound behind one fact more.
use Rattle.std.proofs.Common.{◌≡◌, ◌&&◌, ◌≤◌, ℕ, Bool, true, false, [], ◌∷◌, ◌++◌, Option, None}
use Rattle.std.proofs.Common.{refl, sym, ap, subst, ◌∙◌, max}
use Rattle.std.specs.Option.{option_map_or}
use Rattle.std.proofs.lemmas.Option.{none-some}
use Rattle.pl_facts.specs.declared.fact.Event.{Event}
use Rattle.pl_facts.specs.declared.fact.Event.TheVariants as event
use Rattle.pl_facts.specs.declared.fact.Fact.{Fact}
use Rattle.pl_journal.specs.About.{is_about, is_also_about}
use Rattle.pl_journal.specs.Kinds.{is_queueing, is_start}
use Rattle.pl_journal.specs.Log.{Log, last_run}
use Rattle.pl_journal.specs.Runs.{number_told, queueing, run_told, stage_start}
use Rattle.pl_journal.specs.Settings.{by}
use Rattle.pl_log.proofs.Naming.{exact_key}
use Rattle.pl_log.specs.Keys.{Queue, Run, Stage, same_key}
use Rattle.pl_granting_laws.specs.Below.pl_settling.proofs.Behind.{touched, untouched}
use Rattle.pl_granting_laws.specs.Below.pl_settling.proofs.Occupying.{IsQuiet, keeps_one, quiet_if, still_one}
use Rattle.pl_granting_laws.specs.Below.pl_settling.specs.Gives.{Gives}
use Rattle.pl_granting_laws.specs.Below.pl_settling.specs.Laws.{HasOneHolder}
use Rattle.pl_step.specs.Full.{with_facts}

-- ---- what stays: an exclusive resource has one holder at most, a stage that was started is of a
-- queued run, and no run's number is above the last

abbrev pub AreBelow : Log → Type 0
AreBelow log = (run : ℕ) → ¬ (queueing run log.facts ≡ None) → run ≤ last_run log

pub record Sound (log : Log) : Type 0 where
  pub one : HasOneHolder log.facts
  pub queued : (run stage : ℕ) → ¬ (stage_start run stage log.facts ≡ None) →
      ¬ (queueing run log.facts ≡ None)
  pub numbers : AreBelow log

abbrev pub with_one : Log → Fact → Log
with_one log fact = with_facts log (fact ∷ [])

-- ---- a fact that queues no run, sets no resource and starts no stage

pub record IsIdle (one : Fact) : Type 0 where
  pub quiet : IsQuiet one
  pub start : (run stage : ℕ) → (is_about (Stage run stage) one && is_start one.event) ≡ false
  pub queue : is_also_about Queue one ≡ false

module _ (log : Log) (one : Fact) where
  pub same_start : (run stage : ℕ) →
      (is_about (Stage run stage) one && is_start one.event) ≡ false →
      stage_start run stage (log.facts ++ one ∷ []) ≡ stage_start run stage log.facts
  same_start run stage lacks =
      untouched (λ fact. is_about (Stage run stage) fact && is_start fact.event) log.facts one lacks

  pub same_run : (run : ℕ) → (is_about (Run run) one && is_queueing one.event) ≡ false →
      queueing run (log.facts ++ one ∷ []) ≡ queueing run log.facts
  same_run run lacks =
      untouched (λ fact. is_about (Run run) fact && is_queueing fact.event) log.facts one lacks

  same_last : is_also_about Queue one ≡ false → last_run (with_one log one) ≡ last_run log
  same_last lacks =
      ap (λ (found : Option Fact). option_map_or (λ run. max log.opening.run run)
      (by number_told found) log.opening.run) (untouched (is_also_about Queue) log.facts one lacks)

  pub still_queued : (run : ℕ) → ¬ (queueing run log.facts ≡ None) →
      ¬ (queueing run (log.facts ++ one ∷ []) ≡ None)
  still_queued run was none = go (is_about (Run run) one && is_queueing one.event) refl
    where
      go : (b : Bool) → (is_about (Run run) one && is_queueing one.event) ≡ b → ⊥
      go true is =
          none-some one (sym none
          ∙ touched (λ fact. is_about (Run run) fact && is_queueing fact.event) log.facts one is)
      go false is = was (sym (same_run run is) ∙ none)

  -- behind a fact that queues no run
  pub numbers_stay : ((run : ℕ) → (is_about (Run run) one && is_queueing one.event) ≡ false) →
      is_also_about Queue one ≡ false → AreBelow log → AreBelow (with_one log one)
  numbers_stay quiet queue below = λ run there.
      subst (λ n. run ≤ n) (sym (same_last queue))
      (below run (λ none. there (same_run run (quiet run) ∙ none)))

  -- behind a fact that starts no stage
  pub queued_stays : ((run stage : ℕ) →
      (is_about (Stage run stage) one && is_start one.event) ≡ false) → Sound log →
      (run stage : ℕ) → ¬ (stage_start run stage (log.facts ++ one ∷ []) ≡ None) →
      ¬ (queueing run (log.facts ++ one ∷ []) ≡ None)
  queued_stays lacks sound run stage started =
      still_queued run (sound.queued run stage
      (λ none. started (same_start run stage (lacks run stage) ∙ none)))

  pub idle_keeps : IsIdle one → Sound log → Sound (with_one log one)
  idle_keeps idle sound = record {
    one = still_one log.facts one idle.quiet idle.start sound.one;
    queued = queued_stays idle.start sound;
    numbers = numbers_stay idle.quiet.run idle.queue sound.numbers;
  }

-- ---- a fact that is due

pub no_start : (b : Bool) → (b && false) ≡ false
no_start true = refl
no_start false = refl

pub due_keeps : (log : Log) (moment : ℕ) (one : Fact) → one.moment ≡ moment →
    Gives log.facts moment one.event → Sound log → Sound (with_one log one)
due_keeps log moment one at is sound = go one.event refl is
  where
    quiet : IsQuiet one
    quiet = quiet_if log.facts moment one is

    idle : ((run stage : ℕ) →
        (is_about (Stage run stage) one && is_start one.event) ≡ false) →
        is_also_about Queue one ≡ false → Sound (with_one log one)
    idle start queue =
        idle_keeps log one (record { quiet = quiet; start = start; queue = queue }) sound

    go : (told : Event) → one.event ≡ told → Gives log.facts moment told →
        Sound (with_one log one)
    go (event.StageStarted started place) e next =
        record {
          one = keeps_one moment log.facts one at is sound.one;
          queued = λ run stage was. by_name run stage was
              (same_key (Stage started place) (Stage run stage)) refl;
          numbers = numbers_stay log one quiet.run (rw e refl) sound.numbers;
        }
      where
        of_started : ¬ (queueing started log.facts ≡ None)
        of_started none =
            none-some next.told (sym (ap (by run_told) none) ∙ next.there.queued)

        by_name : (run stage : ℕ) → ¬ (stage_start run stage (log.facts ++ one ∷ []) ≡ None) →
            (b : Bool) → same_key (Stage started place) (Stage run stage) ≡ b →
            ¬ (queueing run (log.facts ++ one ∷ []) ≡ None)
        by_name run stage was true same =
            let named : Stage started place ≡ Stage run stage =
            exact_key (Stage started place) (Stage run stage) same in
            let run_is : started ≡ run = cc in
            still_queued log one run
            (subst (λ r. ¬ (queueing r log.facts ≡ None)) run_is of_started)
        by_name run stage was false same =
            still_queued log one run (sound.queued run stage
            (λ none. was (same_start log one run stage (rw e (ap (λ b. b && true) same)) ∙ none)))
    go (event.StageEnded run stage outcome rule) e ended =
        idle (λ r s. rw e (no_start (same_key (Stage run stage) (Stage r s)))) (rw e refl)
    go (event.JobEnded outcome reported stage job run rule outputs) e ended =
        idle (λ r s. rw e refl) (rw e refl)
    go (event.FilePut file) e none = absurd none
    go (event.FileRemoved key) e none = absurd none
    go (event.PipelineSet told) e none = absurd none
    go (event.ResourceSet told) e none = absurd none
    go (event.PrincipalSet told) e none = absurd none
    go (event.AgentSet told) e none = absurd none
    go (event.RunQueued told) e none = absurd none
    go (event.DecisionMade run stage approver approve) e none = absurd none
    go (event.JobTaken run stage job agent) e none = absurd none
    go (event.RunCanceled run) e none = absurd none
