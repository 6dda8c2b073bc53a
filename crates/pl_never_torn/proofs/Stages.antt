-- The stages of a legal history are in time.
use Rattle.std.proofs.Common.{◌≡◌, ◌≤◌, ◌&&◌, ℕ, Bool, true, false, true≢false, List, [], ◌∷◌, ◌++◌}
use Rattle.std.proofs.Common.{Option, Some, None, refl, sym, ap, subst, ◌∙◌, arith}
use Rattle.std.specs.List.{list_all, AllByRecursion}
use Rattle.std.specs.Option.{option_and_then}
use Rattle.std.specs.Prelude.{is_none, is_some, slice_get, unwrap_or}
use Rattle.pl_changes.proofs.Leading.{none_some}
use Rattle.pl_facts.specs.declared.entry.Entry.{Entry}
use Rattle.pl_facts.specs.declared.fact.Event.{Event}
use Rattle.pl_facts.specs.declared.fact.Event.TheVariants as event
use Rattle.pl_facts.specs.declared.fact.Fact.{Fact}
use Rattle.pl_facts.specs.declared.fact.QueuedRun.{QueuedRun}
use Rattle.pl_plan.specs.declared.plan.PlanStage.{PlanStage}
use Rattle.pl_history.specs.Claims.{IsOrderly}
use Rattle.pl_history.specs.History.{Opening, log_of}
use Rattle.pl_history.specs.Legal.{Legal}
use Rattle.pl_history.proofs.Keeping.{Sound}
use Rattle.pl_granting.specs.Below.pl_due.proofs.Standing.{first_of_two, is_nothing, second_of_two}
use Rattle.pl_granting.specs.Below.pl_settling.proofs.Behind.{touched, untouched}
use Rattle.pl_granting.specs.Below.pl_settling.proofs.Giving.{gives}
use Rattle.pl_granting.specs.Below.pl_settling.specs.Gives.{Gives}
use Rattle.pl_history.specs.Below.pl_queueing.specs.Queueing.{Made}
use Rattle.pl_granting.specs.Below.pl_settling.specs.Laws.{WasNext}
use Rattle.pl_views.specs.Ready.{has_ended, is_ready}
use Rattle.pl_journal.specs.About.{is_about, key_of}
use Rattle.pl_journal.specs.Kinds.{is_stage_end, is_start}
use Rattle.pl_journal.specs.Log.{Log}
use Rattle.pl_journal.specs.Runs.{queueing, run_told, stage_end, stage_start}
use Rattle.pl_journal.specs.Settings.{by}
use Rattle.pl_kept.specs.Kept.{planned_stage}
use Rattle.pl_log.proofs.Naming.{exact_key}
use Rattle.pl_log.specs.Keys.{same_key}
use Rattle.pl_log.specs.Keys as key
use Rattle.pl_log.specs.Latest.{latest}
use Rattle.pl_never_torn.specs.Rising.{NoneLater}
use Rattle.pl_never_torn.specs.Stages.{AreInTime, HadEnded}
use Rattle.pl_never_torn.proofs.Deciding.{Fresh, asked_fresh, due_fresh, planned_stays}
use Rattle.pl_never_torn.proofs.Deciding.{queueing_stays}
use Rattle.pl_never_torn.proofs.Deciding.{sound_keeps}
use Rattle.pl_never_torn.proofs.Late.{latest_has}
use Rattle.pl_never_torn.proofs.Staying.{Before, Keeps, Laws, stays}
use Rattle.pl_never_torn.proofs.Telling.{Tells}

abbrev pub starts : ℕ → ℕ → Fact → Bool
starts run stage fact = is_about (key.Stage run stage) fact && is_start fact.event

abbrev pub ends : ℕ → ℕ → Fact → Bool
ends run stage fact = is_about (key.Stage run stage) fact && is_stage_end fact.event

-- a stage that is planned, and for which all that it waits for has ended
record IsReady (facts : List Fact) (run stage : ℕ) : Type 0 where
  unended : stage_end run stage facts ≡ None
  planned : PlanStage
  there : planned_stage run stage facts ≡ Some planned
  ready : is_ready planned run facts ≡ true

-- what a fact tells of the stage that it starts or ends
record Works (facts : List Fact) (one : Fact) : Type 0 where
  fresh : Fresh facts one.event
  start : (run stage : ℕ) → starts run stage one ≡ true → IsReady facts run stage
  end : (run stage : ℕ) → ends run stage one ≡ true → stage_end run stage facts ≡ None

-- ---- the stage of a fact

abbrev OfIts : (ℕ → ℕ → Type 0) → Event → Type 0
OfIts P (event.StageStarted run stage) = P run stage
OfIts P (event.StageEnded run stage outcome rule) = P run stage
OfIts P _ = Unit {0}

started_of : (P : ℕ → ℕ → Type 0) (run stage : ℕ) (told : Event) →
    (same_key (key_of told) (key.Stage run stage) && is_start told) ≡ true → OfIts P told →
    P run stage
started_of P run stage (event.StageStarted r s) is p =
    let e : key.Stage r s ≡ key.Stage run stage = exact_key (key.Stage r s) (key.Stage run stage)
    (first_of_two (same_key (key.Stage r s) (key.Stage run stage)) true is) in
    let m : r ≡ run = cc in
    let n : s ≡ stage = cc in
    subst (λ x. P x stage) m (subst (λ x. P r x) n p)
started_of P run stage told is p = absurd (true≢false (sym
    (second_of_two (same_key (key_of told) (key.Stage run stage)) (is_start told) is)))

ended_of : (P : ℕ → ℕ → Type 0) (run stage : ℕ) (told : Event) →
    (same_key (key_of told) (key.Stage run stage) && is_stage_end told) ≡ true → OfIts P told →
    P run stage
ended_of P run stage (event.StageEnded r s outcome rule) is p =
    let e : key.Stage r s ≡ key.Stage run stage = exact_key (key.Stage r s) (key.Stage run stage)
    (first_of_two (same_key (key.Stage r s) (key.Stage run stage)) true is) in
    let m : r ≡ run = cc in
    let n : s ≡ stage = cc in
    subst (λ x. P x stage) m (subst (λ x. P r x) n p)
ended_of P run stage told is p = absurd (true≢false (sym
    (second_of_two (same_key (key_of told) (key.Stage run stage)) (is_stage_end told) is)))

next_is_ready : (facts : List Fact) (moment run stage : ℕ) → WasNext facts moment run stage →
    IsReady facts run stage
next_is_ready facts moment run stage next =
    let neither = is_none (stage_start run stage facts) && is_none (stage_end run stage facts) in
    record {
      unended = is_nothing (stage_end run stage facts)
          (second_of_two (is_none (stage_start run stage facts))
          (is_none (stage_end run stage facts))
          (first_of_two neither (is_ready next.one run facts) next.eligible.waits));
      planned = next.one;
      there = ap (option_and_then
          (λ (told : QueuedRun). slice_get told.compiled.plan.stages stage)) next.there.queued
          ∙ next.there.planned;
      ready = second_of_two neither (is_ready next.one run facts) next.eligible.waits;
    }

-- a start that is due is of a stage that is ready, an end of one that hasn't ended
due_start : (facts : List Fact) (moment : ℕ) (told : Event) → Gives facts moment told →
    (run stage : ℕ) → (same_key (key_of told) (key.Stage run stage) && is_start told) ≡ true →
    IsReady facts run stage
due_start facts moment (event.StageStarted r s) next run stage is =
    started_of (IsReady facts) run stage (event.StageStarted r s) is
    (next_is_ready facts moment r s next)
due_start facts moment told next run stage is = absurd (true≢false (sym
    (second_of_two (same_key (key_of told) (key.Stage run stage)) (is_start told) is)))

due_end : (facts : List Fact) (moment : ℕ) (told : Event) → Gives facts moment told →
    (run stage : ℕ) → (same_key (key_of told) (key.Stage run stage) && is_stage_end told) ≡ true →
    stage_end run stage facts ≡ None
due_end facts moment (event.StageEnded r s outcome rule) none run stage is =
    ended_of (λ r s. stage_end r s facts ≡ None) run stage (event.StageEnded r s outcome rule) is
    none
due_end facts moment told none run stage is = absurd (true≢false (sym
    (second_of_two (same_key (key_of told) (key.Stage run stage)) (is_stage_end told) is)))

asked_start : (log : Log) (made : Made) (told : Event) → Tells log made told → (run stage : ℕ) →
    (same_key (key_of told) (key.Stage run stage) && is_start told) ≡ true →
    IsReady log.facts run stage
asked_start log made (event.StageStarted r s) none run stage is = absurd none
asked_start log made told none run stage is = absurd (true≢false (sym
    (second_of_two (same_key (key_of told) (key.Stage run stage)) (is_start told) is)))

asked_end : (log : Log) (made : Made) (told : Event) → Tells log made told → (run stage : ℕ) →
    (same_key (key_of told) (key.Stage run stage) && is_stage_end told) ≡ true →
    stage_end run stage log.facts ≡ None
asked_end log made (event.StageEnded r s outcome rule) none run stage is = absurd none
asked_end log made told none run stage is = absurd (true≢false (sym
    (second_of_two (same_key (key_of told) (key.Stage run stage)) (is_stage_end told) is)))

-- ---- behind one fact more

the_same : {X : Type 0} (o : Option X) (x y : X) → o ≡ Some x → o ≡ Some y → x ≡ y
the_same {X} o x y e f = ap (λ (it : Option X). unwrap_or it x) (sym e ∙ f)

module _ (facts : List Fact) (one : Fact) (works : Works facts one)
    (before : Before one.moment facts) where
  early : (test : Fact → Bool) (fact : Fact) → latest test facts ≡ Some fact →
      fact.moment ≤ one.moment
  early test fact e = latest_has (λ (it : Fact). it.moment ≤ one.moment) test facts fact before e

  -- what has ended has ended so
  had_ended : (moment run stage : ℕ) → HadEnded facts moment run stage →
      HadEnded (facts ++ one ∷ []) moment run stage
  had_ended moment run stage had = record {
    end = had.end;
    is = still (ends run stage one) refl;
    before = had.before;
  }
    where
      still : (b : Bool) → ends run stage one ≡ b →
          stage_end run stage (facts ++ one ∷ []) ≡ Some had.end
      still true is =
          absurd (none_some (stage_end run stage facts) had.end (works.end run stage is) had.is)
      still false is = untouched (ends run stage) facts one is ∙ had.is

  all_had_ended : (moment run : ℕ) (stages : List ℕ) →
      AllByRecursion (HadEnded facts moment run) stages →
      AllByRecursion (HadEnded (facts ++ one ∷ []) moment run) stages
  all_had_ended moment run [] had = tt
  all_had_ended moment run (stage ∷ stages) had =
      (had_ended moment run stage had.0, all_had_ended moment run stages had.1)

  -- where a stage is ready, all that it waits for had ended
  ready_ended : (run : ℕ) (stages : List ℕ) → list_all (has_ended run facts) stages ≡ true →
      AllByRecursion (HadEnded facts one.moment run) stages
  ready_ended run [] ready = tt
  ready_ended run (stage ∷ stages) ready = (
    this (stage_end run stage facts) refl
        (first_of_two (has_ended run facts stage) (list_all (has_ended run facts) stages) ready),
    ready_ended run stages
        (second_of_two (has_ended run facts stage) (list_all (has_ended run facts) stages) ready),
  )
    where
      this : (o : Option Fact) → stage_end run stage facts ≡ o → is_some o ≡ true →
          HadEnded facts one.moment run stage
      this None e some = absurd (true≢false (sym some))
      this (Some fact) e some = record {
        end = fact;
        is = e;
        before = early (ends run stage) fact e;
      }

  module _ (queued : (run stage : ℕ) → ¬ (stage_start run stage facts ≡ None) →
      ¬ (queueing run facts ≡ None)) (was : AreInTime facts) where
    -- an end behind its start
    ends_more : (run stage : ℕ) (start end : Fact) →
        stage_start run stage (facts ++ one ∷ []) ≡ Some start →
        stage_end run stage (facts ++ one ∷ []) ≡ Some end → start.moment ≤ end.moment
    ends_more run stage start end e f = go (starts run stage one) refl (ends run stage one) refl
      where
        go : (a : Bool) → starts run stage one ≡ a → (b : Bool) → ends run stage one ≡ b →
            start.moment ≤ end.moment
        go true a true b =
            let left : one ≡ start = the_same (stage_start run stage (facts ++ one ∷ [])) one start
            (touched (starts run stage) facts one a) e in
            let right : one ≡ end = the_same (stage_end run stage (facts ++ one ∷ [])) one end
            (touched (ends run stage) facts one b) f in
            let m : start.moment ≡ end.moment = ap (λ (it : Fact). it.moment) (sym left ∙ right) in
            omega (arith, m)
        go false a true b =
            let right : one ≡ end = the_same (stage_end run stage (facts ++ one ∷ [])) one end
            (touched (ends run stage) facts one b) f in
            let m : one.moment ≡ end.moment = ap (λ (it : Fact). it.moment) right in
            let n = early (starts run stage) start
            (sym (untouched (starts run stage) facts one a) ∙ e) in
            omega (arith, m, n)
        go true a false b =
            absurd (none_some (stage_end run stage facts) end (works.start run stage a).unended
            (sym (untouched (ends run stage) facts one b) ∙ f))
        go false a false b = was.ends run stage start end
            (sym (untouched (starts run stage) facts one a) ∙ e)
            (sym (untouched (ends run stage) facts one b) ∙ f)

    -- a start behind the ends of what it waits for
    waits_more : (run stage : ℕ) (planned : PlanStage) (start : Fact) →
        planned_stage run stage (facts ++ one ∷ []) ≡ Some planned →
        stage_start run stage (facts ++ one ∷ []) ≡ Some start →
        AllByRecursion (HadEnded (facts ++ one ∷ []) start.moment run) planned.depends
    waits_more run stage planned start p e = go (starts run stage one) refl where
      go : (a : Bool) → starts run stage one ≡ a →
          AllByRecursion (HadEnded (facts ++ one ∷ []) start.moment run) planned.depends
      go true a =
          let ready = works.start run stage a in
          let this : one ≡ start = the_same (stage_start run stage (facts ++ one ∷ [])) one start
          (touched (starts run stage) facts one a) e in
          let there : ¬ (planned_stage run stage facts ≡ None) =
          λ none. none_some (planned_stage run stage facts) ready.planned none ready.there in
          let its : ready.planned ≡ planned =
          the_same (planned_stage run stage (facts ++ one ∷ [])) ready.planned planned
          (planned_stays facts one works.fresh run stage there ∙ ready.there) p in
          subst (λ (it : Fact). AllByRecursion (HadEnded (facts ++ one ∷ []) it.moment run)
          planned.depends) this
          (subst (λ (it : PlanStage). AllByRecursion
          (HadEnded (facts ++ one ∷ []) one.moment run) it.depends) its
          (all_had_ended one.moment run ready.planned.depends
          (ready_ended run ready.planned.depends ready.ready)))
      go false a =
          let started : stage_start run stage facts ≡ Some start =
          sym (untouched (starts run stage) facts one a) ∙ e in
          let its : planned_stage run stage facts ≡ Some planned =
          ap (λ (o : Option Fact). option_and_then
          (λ (told : QueuedRun). slice_get told.compiled.plan.stages stage) (by run_told o))
          (sym (queueing_stays facts one works.fresh run (queued run stage
          (λ none. none_some (stage_start run stage facts) start none started)))) ∙ p in
          all_had_ended start.moment run planned.depends
          (was.waits run stage planned start its started)

    in_time_more : AreInTime (facts ++ one ∷ [])
    in_time_more = record { ends = ends_more; waits = waits_more }

-- ---- along a legal history

abbrev pub InTime : Log → Type 0
InTime log = Sound log × AreInTime log.facts

in_time_keeps : Keeps InTime
in_time_keeps = record {
  due = λ log one before is_due was. (
    sound_keeps.due log one before is_due was.0,
    in_time_more log.facts one (record {
      fresh = due_fresh log.facts one.moment one.event (gives log.facts one.moment one.event
          is_due);
      start = due_start log.facts one.moment one.event (gives log.facts one.moment one.event
          is_due);
      end = due_end log.facts one.moment one.event (gives log.facts one.moment one.event is_due);
    }) before was.0.queued was.1,
  );
  asked = λ log made one has before few tells was. (
    sound_keeps.asked log made one has before few tells was.0,
    in_time_more log.facts one (record {
      fresh = asked_fresh log made one few was.0 one.event refl tells;
      start = asked_start log made one.event tells;
      end = asked_end log made one.event tells;
    }) before was.0.queued was.1,
  );
  installed = λ log count was. (sound_keeps.installed log count was.0, was.1);
}

pub in_time_all : Laws → (opening : Opening) (entries : List Entry) →
    IsOrderly opening → NoneLater (log_of opening []) →
    InTime (log_of opening []) → Legal opening entries → InTime (log_of opening entries)
in_time_all laws opening entries first later was legal =
    stays laws InTime in_time_keeps opening entries first later was legal
