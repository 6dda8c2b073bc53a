-- A history stays sound, and its decisions are about stages that are planned.
use Rattle.std.proofs.Common.{◌≡◌, ◌≤◌, ◌&&◌, ℕ, nat_lt, Bool, true, false, List, [], ◌∷◌, ◌++◌}
use Rattle.std.proofs.Common.{true≢false, Option, Some, None, refl, sym, ap, subst, ◌∙◌, arith}
use Rattle.std.proofs.lemmas.Bool.Decides.{nat_tests}
use Rattle.std.specs.Option.{option_and_then}
use Rattle.std.specs.Prelude.{if◌then◌else◌, slice_get}
use Rattle.pl_changes.proofs.Leading.{none_some}
use Rattle.pl_facts.specs.Sizes.{counted}
use Rattle.pl_facts.specs.declared.entry.Entry.{Entry}
use Rattle.pl_facts.specs.declared.fact.Event.{Event}
use Rattle.pl_facts.specs.declared.fact.Event.TheVariants as event
use Rattle.pl_facts.specs.declared.fact.Fact.{Fact}
use Rattle.pl_facts.specs.declared.fact.QueuedRun.{QueuedRun}
use Rattle.pl_history.specs.Claims.{IsOrderly}
use Rattle.pl_history.specs.History.{Opening, log_of}
use Rattle.pl_history.specs.Legal.{Legal}
use Rattle.pl_history.proofs.Happening.{Happens}
use Rattle.pl_history.proofs.Keeping.{Sound, due_keeps}
use Rattle.pl_history.proofs.Requesting.{is_fresh, request_keeps}
use Rattle.pl_granting.specs.Below.pl_due.proofs.Standing.{first_of_two, second_of_two}
use Rattle.pl_granting.specs.Below.pl_settling.proofs.Behind.{untouched}
use Rattle.pl_granting.specs.Below.pl_settling.proofs.Giving.{gives}
use Rattle.pl_granting.specs.Below.pl_settling.specs.Gives.{Gives}
use Rattle.pl_history.specs.Below.pl_queueing.specs.Queueing.{Made}
use Rattle.pl_history.specs.Below.pl_step.specs.Full.{last_number}
use Rattle.pl_journal.specs.About.{is_about, key_of}
use Rattle.pl_journal.specs.Kinds.{is_decision_by, is_queueing}
use Rattle.pl_journal.specs.Log.{Log, last_moment, last_run, version}
use Rattle.pl_journal.specs.Runs.{decision, queueing, run_told, verdict_told}
use Rattle.pl_journal.specs.Settings.{agent_set, by, file, pipeline, principal_set, resource_set}
use Rattle.pl_keeper.specs.declared.records.Meta.{Meta}
use Rattle.pl_keeper.specs.declared.records.Record.{Record}
use Rattle.pl_keeper.specs.declared.records.Record.TheVariants as kept
use Rattle.pl_kept.specs.Kept.{kept_at, numbers_kept, planned_job, planned_stage, Where, File}
use Rattle.pl_kept.specs.Kept.{Pipeline, Resource, Principal, Agent, Run, Stage, Job, Decision}
use Rattle.pl_log.proofs.Naming.{exact_key}
use Rattle.pl_log.specs.Keys.{same_key}
use Rattle.pl_log.specs.Keys as key
use Rattle.pl_never_torn.specs.Planned.{ArePlanned, IsBelow}
use Rattle.pl_never_torn.specs.Rising.{NoneLater}
use Rattle.pl_never_torn.proofs.Naming.{led, mapped}
use Rattle.pl_never_torn.proofs.Staying.{Keeps, Laws, stays, with_one}
use Rattle.pl_never_torn.proofs.Telling.{Tells}

-- ---- a history stays sound

happens_so : (log : Log) (made : Made) (told : Event) → Tells log made told → Happens log told
happens_so log made (event.ResourceSet told) tells = tells
happens_so log made (event.RunQueued told) tells = tells.0
happens_so log made (event.StageStarted run stage) tells = tells
happens_so log made (event.StageEnded run stage outcome rule) tells = tells
happens_so log made _ tells = tt

pub sound_keeps : Keeps Sound
sound_keeps = record {
  due = λ log one before is_due sound. due_keeps log one.moment one refl
      (gives log.facts one.moment one.event is_due) sound;
  asked = λ log made one has before few tells sound.
      request_keeps log one (happens_so log made one.event tells) few sound;
  installed = λ log count sound.
      record { one = sound.one; queued = sound.queued; numbers = sound.numbers };
}

-- ---- what is planned stays planned

-- a run that is queued is new
abbrev pub Fresh : List Fact → Event → Type 0
Fresh facts (event.RunQueued told) = queueing told.run facts ≡ None
Fresh facts _ = Unit {0}

pub due_fresh : (facts : List Fact) (moment : ℕ) (told : Event) → Gives facts moment told →
    Fresh facts told
due_fresh facts moment (event.RunQueued told) none = absurd none
due_fresh facts moment _ gives = tt

pub asked_fresh : (log : Log) (made : Made) (one : Fact) → last_run (with_one log one) ≤ last_number
    → Sound log →
    (told : Event) → one.event ≡ told → Tells log made told → Fresh log.facts told
asked_fresh log made one few sound (event.RunQueued told) e is =
    is_fresh log one told e is.0 few sound.numbers
asked_fresh log made one few sound _ e is = tt

-- the key of a run that is queued
queues_it : (run : ℕ) (told : Event) (facts : List Fact) → Fresh facts told →
    (same_key (key_of told) (key.Run run) && is_queueing told) ≡ true →
    queueing run facts ≡ None
queues_it run (event.RunQueued told) facts fresh is =
    let both : same_key (key.Run told.run) (key.Run run) ≡ true =
    first_of_two (same_key (key.Run told.run) (key.Run run)) true is in
    let e : key.Run told.run ≡ key.Run run =
    exact_key (key.Run told.run) (key.Run run) both in
    let n : told.run ≡ run = cc in
    subst (λ r. queueing r facts ≡ None) n fresh
queues_it run told facts fresh is = absurd (true≢false (sym
    (second_of_two (same_key (key_of told) (key.Run run)) (is_queueing told) is)))

module _ (facts : List Fact) (one : Fact) (fresh : Fresh facts one.event) where
  pub queueing_stays : (run : ℕ) → ¬ (queueing run facts ≡ None) →
      queueing run (facts ++ one ∷ []) ≡ queueing run facts
  queueing_stays run there = by_test (is_about (key.Run run) one && is_queueing one.event) refl
    where
      by_test : (b : Bool) → (is_about (key.Run run) one && is_queueing one.event) ≡ b →
          queueing run (facts ++ one ∷ []) ≡ queueing run facts
      by_test true is = absurd (there (queues_it run one.event facts fresh is))
      by_test false is = untouched (λ fact. is_about (key.Run run) fact && is_queueing fact.event)
          facts one is

  queued_there : (run stage : ℕ) → ¬ (planned_stage run stage facts ≡ None) →
      ¬ (queueing run facts ≡ None)
  queued_there run stage planned none =
      planned (ap (λ (o : Option Fact). option_and_then
      (λ told. slice_get told.compiled.plan.stages stage) (by run_told o)) none)

  pub planned_stays : (run stage : ℕ) → ¬ (planned_stage run stage facts ≡ None) →
      planned_stage run stage (facts ++ one ∷ []) ≡ planned_stage run stage facts
  planned_stays run stage planned =
      ap (λ (o : Option Fact). option_and_then
      (λ told. slice_get told.compiled.plan.stages stage) (by run_told o))
      (queueing_stays run (queued_there run stage planned))

  still_planned : (run stage : ℕ) → ¬ (planned_stage run stage facts ≡ None) →
      ¬ (planned_stage run stage (facts ++ one ∷ []) ≡ None)
  still_planned run stage planned none = planned (sym (planned_stays run stage planned) ∙ none)

-- ---- decisions

-- what a fact tells of its stage, where it is a decision
abbrev DecidesPlanned : List Fact → Event → Type 0
DecidesPlanned facts (event.DecisionMade run stage approver approve) =
    ¬ (planned_stage run stage facts ≡ None)
DecidesPlanned facts _ = Unit {0}

due_decides : (facts : List Fact) (moment : ℕ) (told : Event) → Gives facts moment told →
    DecidesPlanned facts told
due_decides facts moment (event.DecisionMade run stage approver approve) none = absurd none
due_decides facts moment _ gives = tt

asked_decides : (log : Log) (made : Made) (told : Event) → Tells log made told → DecidesPlanned
    log.facts told
asked_decides log made (event.DecisionMade run stage approver approve) is = λ none.
    none_some (planned_stage run stage log.facts) is.1 none
    (ap (option_and_then (λ (told : QueuedRun). slice_get told.compiled.plan.stages stage)) is.2
    ∙ is.3)
asked_decides log made _ tells = tt

-- the stage of a decision
decides_it : (run stage : ℕ) (name : List ℕ) (told : Event) (facts : List Fact) →
    DecidesPlanned facts told →
    (same_key (key_of told) (key.Stage run stage) && is_decision_by name told) ≡ true →
    ¬ (planned_stage run stage facts ≡ None)
decides_it run stage name (event.DecisionMade r s approver approve) facts planned is =
    let both : same_key (key.Stage r s) (key.Stage run stage) ≡ true =
    first_of_two (same_key (key.Stage r s) (key.Stage run stage))
    (is_decision_by name (event.DecisionMade r s approver approve)) is in
    let e : key.Stage r s ≡ key.Stage run stage =
    exact_key (key.Stage r s) (key.Stage run stage) both in
    let m : r ≡ run = cc in
    let n : s ≡ stage = cc in
    subst (λ x. ¬ (planned_stage x stage facts ≡ None)) m
    (subst (λ x. ¬ (planned_stage r x facts ≡ None)) n planned)
decides_it run stage name told facts planned is = absurd (true≢false (sym
    (second_of_two (same_key (key_of told) (key.Stage run stage)) (is_decision_by name told) is)))

planned_more : (facts : List Fact) (one : Fact) → Fresh facts one.event →
    DecidesPlanned facts one.event → ArePlanned facts → ArePlanned (facts ++ one ∷ [])
planned_more facts one fresh decides planned = λ run stage name there.
    still_planned facts one fresh run stage (by_test run stage name there
    (is_about (key.Stage run stage) one && is_decision_by name one.event) refl)
  where
    by_test : (run stage : ℕ) (name : List ℕ) →
        ¬ (decision run stage name (facts ++ one ∷ []) ≡ None) → (b : Bool) →
        (is_about (key.Stage run stage) one && is_decision_by name one.event) ≡ b →
        ¬ (planned_stage run stage facts ≡ None)
    by_test run stage name there true is = decides_it run stage name one.event facts decides is
    by_test run stage name there false is = planned run stage name
        (λ none. there (untouched
        (λ fact. is_about (key.Stage run stage) fact && is_decision_by name fact.event) facts one is
        ∙ none))

abbrev Planned : Log → Type 0
Planned log = Sound log × ArePlanned log.facts

planned_keeps : Keeps Planned
planned_keeps = record {
  due = λ log one before is_due was. (
    sound_keeps.due log one before is_due was.0,
    planned_more log.facts one (due_fresh log.facts one.moment one.event (gives log.facts one.moment
        one.event is_due))
        (due_decides log.facts one.moment one.event (gives log.facts one.moment one.event is_due))
        was.1,
  );
  asked = λ log made one has before few tells was. (
    sound_keeps.asked log made one has before few tells was.0,
    planned_more log.facts one (asked_fresh log made one few was.0 one.event refl tells)
        (asked_decides log made one.event tells) was.1,
  );
  installed = λ log count was. (sound_keeps.installed log count was.0, was.1);
}

pub planned_all : Laws → (opening : Opening) (entries : List Entry) →
    IsOrderly opening → NoneLater (log_of opening []) →
    Planned (log_of opening []) → Legal opening entries → Planned (log_of opening entries)
planned_all laws opening entries first later was legal =
    stays laws Planned planned_keeps opening entries first later was legal

-- ---- so those of records are

not_above : (last run : ℕ) → run ≤ last → nat_lt last run ≡ false
not_above last run below = grind (arith, nat_tests)

-- the numbers tell the last run
pub the_run : (change : ℕ) (log : Log) (numbers : Meta) →
    numbers_kept change log ≡ Some (kept.Meta numbers) → last_run log ≡ numbers.run
the_run change log numbers e = by_test (nat_lt 0 change) e where
  run_in : Option Record → ℕ
  run_in (Some (kept.Meta told)) = told.run
  run_in _ = 0

  by_test : (b : Bool) → (if b then Some (kept.Meta (record {
    moment = last_moment log;
    run = last_run log;
    version = counted (version log);
    change = change;
  })) else None) ≡ Some (kept.Meta numbers) → last_run log ≡ numbers.run
  by_test true f = ap run_in f
  by_test false f = absurd (none_some None (kept.Meta numbers) refl f)

module _ (log : Log) (numbers : Meta) (is : Planned log) (last : last_run log ≡ numbers.run) where
  abbrev Here : Record → Type 0
  Here told = IsBelow numbers log.facts told

  run_below : (run : ℕ) (fact : Fact) → queueing run log.facts ≡ Some fact →
      nat_lt numbers.run run ≡ false
  run_below run fact e = not_above numbers.run run (subst (λ n. run ≤ n) last
      (is.0.numbers run (λ none. none_some (queueing run log.facts) fact none e)))

  pub kept_below : (at : Where) (told : Record) → kept_at at log.facts ≡ Some told → Here told
  kept_below (File name) told e = mapped Here _ (file name log.facts) (λ x h. tt) told e
  kept_below (Pipeline name) told e = mapped Here _ (pipeline name log.facts) (λ x h. tt) told e
  kept_below (Resource name) told e =
      mapped Here _ (resource_set name log.facts) (λ x h. tt) told e
  kept_below (Principal name) told e =
      mapped Here _ (principal_set name log.facts) (λ x h. tt) told e
  kept_below (Agent name) told e = mapped Here _ (agent_set name log.facts) (λ x h. tt) told e
  kept_below (Run run) told e = led Here (λ (fact : Fact). run_told fact.event) _
      (queueing run log.facts) (λ fact y there. run_below run fact there) told e
  kept_below (Stage run stage) told e =
      mapped Here _ (planned_stage run stage log.facts) (λ x h. tt) told e
  kept_below (Job run stage job) told e =
      mapped Here _ (planned_job run stage job log.facts) (λ x h. tt) told e
  kept_below (Decision run stage name) told e =
      led Here (λ (fact : Fact). verdict_told fact.event) _ (decision run stage name log.facts)
      (λ fact y there. is.1 run stage name
      (λ none. none_some (decision run stage name log.facts) fact none there)) told e
