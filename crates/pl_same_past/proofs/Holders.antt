-- Which job an agent holds, where it holds one at most.
use Rattle.std.proofs.Common.{◌≡◌, ◌≤◌, ◌<◌, ◌&&◌, ◌||◌, ℕ, nat_lt, Bool, true, false, true≢false}
use Rattle.std.proofs.Common.{List, Option, Some, None, is_none, is_some, if◌then◌else◌, refl, sym, ap}
use Rattle.std.proofs.Common.{subst, ◌∙◌, arith}
use Rattle.std.proofs.lemmas.Bool.Decides.{nat_tests}
use Rattle.std.specs.List.{AllByRecursion}
use Rattle.std.specs.Option.{option_and_then, option_or}
use Rattle.pl_opening_laws.specs.Below.pl_opening.specs.Below.pl_due.proofs.Standing.{both, first_of_two, second_of_two}
use Rattle.pl_facts.specs.declared.fact.Event.{Event}
use Rattle.pl_facts.specs.declared.fact.Event.TheVariants as event
use Rattle.pl_facts.specs.declared.fact.Fact.{Fact}
use Rattle.pl_journal.specs.About.{is_about, is_also_about, key_of, latest_also}
use Rattle.pl_journal.specs.Kinds.{is_taking}
use Rattle.pl_journal.specs.Runs.{decides, held_at, held_by, if_running, job_end, job_ending}
use Rattle.pl_journal.specs.Runs.{skipping, stage_start, still_runs, taker_told, taking}
use Rattle.pl_log.specs.Keys.{same_key, Taker}
use Rattle.pl_log.specs.Keys as key
use Rattle.pl_log.specs.Latest.{latest}
use Rattle.pl_never_torn.specs.Holders.{HoldOne, HoldsJob}
use Rattle.pl_never_torn.specs.Jobs.{AreJobsInTime}
use Rattle.pl_never_torn.proofs.Holding.{about_takes, latest_late, one_is_there, still, taker_about}
use Rattle.pl_never_torn.proofs.Holding.{Takes}
use Rattle.pl_never_torn.proofs.Jobs.{moved, own_end, takes}
use Rattle.pl_never_torn.proofs.Late.{latest_has}
use Rattle.pl_same_step.specs.Below.pl_same_lookups.specs.Alike.{LookAlike}
use Rattle.pl_same_step.specs.Below.pl_same_lookups.proofs.Finding.{never, passes, same_some}
use Rattle.pl_same_past.specs.Rooted.{TakesOnce}

-- what still runs hasn't ended
or_none : {X : Type 0} (a b : Option X) → option_or a b ≡ None → a ≡ None
or_none None b h = refl
or_none (Some x) b h = h

nothing : {X : Type 0} (o : Option X) → is_none o ≡ true → o ≡ None
nothing None h = refl
nothing (Some x) h = absurd (true≢false (sym h))

running_unended : (facts : List Fact) (run stage job : ℕ) (told : Event) →
    (same_key (key_of told) (key.Job run stage job) && is_taking told) ≡ true →
    still_runs facts told ≡ true → job_end run stage job facts ≡ None
running_unended facts run stage job (event.JobTaken r s j agent) is runs =
    moved (λ x y z. job_end x y z facts ≡ None) r s j run stage job
    (first_of_two (same_key (key.Job r s j) (key.Job run stage job)) true is)
    (or_none (job_end r s j facts) (skipping r s facts)
    (nothing (job_ending r s j facts) runs))
running_unended facts run stage job told is runs = absurd (true≢false (sym
    (second_of_two (same_key (key_of told) (key.Job run stage job)) (is_taking told) is)))

module _ (facts : List Fact) (jobs : AreJobsInTime facts) (was : HoldOne facts)
    (once : AllByRecursion (TakesOnce facts) facts) (agent : List ℕ) where
  abbrev candidate : ℕ → Fact → Bool
  candidate moment fact = is_also_about (Taker agent) fact && decides facts moment fact

  -- a taking by the agent whose job still runs, as the facts tell it
  record IsHeld (fact : Fact) : Type 0 where
    run : ℕ
    stage : ℕ
    job : ℕ
    its : HoldsJob facts agent run stage job
    same : its.take ≡ fact

  held_so : (test : Fact → Bool) (fact : Fact) → latest test facts ≡ Some fact →
      is_also_about (Taker agent) fact ≡ true → still_runs facts fact.event ≡ true → IsHeld fact
  held_so test fact e about runs =
      let it = about_takes fact.event agent about in
      record {
        run = it.run;
        stage = it.stage;
        job = it.job;
        its = record {
          take = fact;
          is = latest_has (TakesOnce facts) test facts fact once e it.run it.stage it.job it.of;
          who = it.who;
          unended = running_unended facts it.run it.stage it.job fact.event it.of runs;
        };
        same = refl;
      }

  -- ---- what is found is held

  running_found : (found fact : Fact) → if_running facts found ≡ Some fact →
      (found ≡ fact) × (still_runs facts found.event ≡ true)
  running_found found fact e = go (still_runs facts found.event) refl e where
    go : (b : Bool) → still_runs facts found.event ≡ b →
        (if b then Some found else None) ≡ Some fact →
        (found ≡ fact) × (still_runs facts found.event ≡ true)
    go true f g = (same_some found fact g, f)
    go false f g = absurd (never fact g)

  found_held : (fact : Fact) → held_by agent facts ≡ Some fact → IsHeld fact
  found_held fact e = by_last (latest_also (Taker agent) facts) refl e where
    by_found : (last found : Fact) → latest (candidate last.moment) facts ≡ Some found →
        if_running facts found ≡ Some fact → IsHeld fact
    by_found last found f g =
        let it = running_found found fact g in
        subst IsHeld it.0 (held_so (candidate last.moment) found f
        (first_of_two (is_also_about (Taker agent) found) (decides facts last.moment found)
        (passes (candidate last.moment) facts found f)) it.1)

    by_candidate : (last : Fact) (o : Option Fact) → latest (candidate last.moment) facts ≡ o →
        option_and_then (if_running facts) o ≡ Some fact → IsHeld fact
    by_candidate last None f g = absurd (never fact g)
    by_candidate last (Some found) f g = by_found last found f g

    by_last : (o : Option Fact) → latest_also (Taker agent) facts ≡ o →
        option_and_then (λ last. held_at agent facts last.moment) o ≡ Some fact → IsHeld fact
    by_last None f g = absurd (never fact g)
    by_last (Some last) f g =
        by_candidate last (latest (candidate last.moment) facts) refl g

  -- ---- what is held is found

  module _ (run stage job : ℕ) (its : HoldsJob facts agent run stage job) where
    its_is : takes run stage job its.take ≡ true
    its_is = passes (takes run stage job) facts its.take its.is

    about_it : is_also_about (Taker agent) its.take ≡ true
    about_it = taker_about its.take.event agent its.who

    begun : (o : Option Fact) → stage_start run stage facts ≡ o →
        is_some (stage_start run stage facts) ≡ true
    begun None e = absurd (jobs.taken run stage job
        (λ none. never its.take (sym none ∙ its.is)) e)
    begun (Some fact) e = ap is_some e

    runs : still_runs facts its.take.event ≡ true
    runs = still facts run stage job its.take.event its_is (ap is_none
        (own_end run stage job facts (begun (stage_start run stage facts) refl) ∙ its.unended))

    passes_too : (moment : ℕ) → candidate moment its.take ≡ true
    passes_too moment = both (is_also_about (Taker agent) its.take)
        (decides facts moment its.take) about_it
        (ap (λ (b : Bool). b || nat_lt its.take.moment moment) runs)

    -- it is what decides
    module _ (last found : Fact) (e : latest_also (Taker agent) facts ≡ Some last)
        (f : latest (candidate last.moment) facts ≡ Some found) where
      late : its.take.moment ≤ found.moment
      late = latest_late (takes run stage job) (candidate last.moment) facts its.take found
          was.rise its.is (passes_too last.moment) f

      early : last.moment ≤ its.take.moment
      early = was.last agent run stage job its last e

      not_before : nat_lt found.moment last.moment ≡ false
      not_before =
          let a = late in
          let b = early in
          grind (arith, nat_tests)

      found_runs : still_runs facts found.event ≡ true
      found_runs = left_only (still_runs facts found.event) (nat_lt found.moment last.moment)
          not_before (second_of_two (is_also_about (Taker agent) found)
          (decides facts last.moment found) (passes (candidate last.moment) facts found f))
        where
          left_only : (a b : Bool) → b ≡ false → (a || b) ≡ true → a ≡ true
          left_only true b off h = refl
          left_only false b off h = absurd (true≢false (sym h ∙ off))

      is_it : found ≡ its.take
      is_it =
          let held = held_so (candidate last.moment) found f
          (first_of_two (is_also_about (Taker agent) found) (decides facts last.moment found)
          (passes (candidate last.moment) facts found f)) found_runs in
          let one = was.one agent held.run held.stage held.job run stage job held.its its in
          let there : taking run stage job facts ≡ Some held.its.take =
          subst (λ x. taking x stage job facts ≡ Some held.its.take) one.0
          (subst (λ x. taking held.run x job facts ≡ Some held.its.take) one.1
          (subst (λ x. taking held.run held.stage x facts ≡ Some held.its.take) one.2
          held.its.is)) in
          sym held.same ∙ same_some held.its.take its.take (sym there ∙ its.is)

      found_so : held_by agent facts ≡ Some its.take
      found_so =
          ap (option_and_then (λ (it : Fact). held_at agent facts it.moment)) e
          ∙ (ap (option_and_then (if_running facts)) f
          ∙ (ap (λ (b : Bool). if b then Some found else None) found_runs ∙ ap Some is_it))

    held_found : held_by agent facts ≡ Some its.take
    held_found = by_last (latest_also (Taker agent) facts) refl where
      by_last : (o : Option Fact) → latest_also (Taker agent) facts ≡ o →
          held_by agent facts ≡ Some its.take
      by_last None e = absurd (one_is_there (takes run stage job)
          (is_also_about (Taker agent)) facts its.take its.is about_it e)
      by_last (Some last) e = by_candidate (latest (candidate last.moment) facts) refl where
        by_candidate : (o : Option Fact) → latest (candidate last.moment) facts ≡ o →
            held_by agent facts ≡ Some its.take
        by_candidate None f = absurd (one_is_there (takes run stage job)
            (candidate last.moment) facts its.take its.is (passes_too last.moment) f)
        by_candidate (Some found) f = found_so last found e f

-- ---- so it is the same where the same is found

pub record HoldSo (facts : List Fact) : Type 0 where
  pub jobs : AreJobsInTime facts
  pub holds : HoldOne facts
  pub once : AllByRecursion (TakesOnce facts) facts

still_held : (facts other : List Fact) → LookAlike facts other → HoldSo facts → HoldSo other →
    (agent : List ℕ) (fact : Fact) → held_by agent facts ≡ Some fact →
    held_by agent other ≡ Some fact
still_held facts other alike left right agent fact e =
    let held = found_held facts left.jobs left.holds left.once agent fact e in
    let its : HoldsJob other agent held.run held.stage held.job = record {
      take = held.its.take;
      is = sym (alike.takings held.run held.stage held.job) ∙ held.its.is;
      who = held.its.who;
      unended = sym (alike.job_ends held.run held.stage held.job) ∙ held.its.unended;
    } in
    held_found other right.jobs right.holds right.once agent held.run held.stage held.job its
    ∙ ap Some held.same

pub holder_same : (facts other : List Fact) → LookAlike facts other → LookAlike other facts →
    HoldSo facts → HoldSo other → (agent : List ℕ) →
    held_by agent facts ≡ held_by agent other
holder_same facts other alike back left right agent =
    go (held_by agent facts) refl (held_by agent other) refl
  where
    go : (o : Option Fact) → held_by agent facts ≡ o → (p : Option Fact) →
        held_by agent other ≡ p → held_by agent facts ≡ held_by agent other
    go None e None f = e ∙ sym f
    go (Some fact) e p f = e ∙ sym (still_held facts other alike left right agent fact e)
    go None e (Some fact) f =
        absurd (never fact (sym e ∙ still_held other facts back right left agent fact f))
