-- How a history stays orderly, entry after entry.
use Rattle.std.proofs.Common.{◌≡◌, ◌≤◌, ℕ, false, List, [], ◌∷◌, ◌++◌, Option, Some, None}
use Rattle.std.proofs.Common.{length, refl, sym, subst, ◌∙◌, arith}
use Rattle.std.proofs.lemmas.List.{append-nil, append_assoc}
use Rattle.pl_base.specs.declared.digest.Digest.{Digest}
use Rattle.pl_history.proofs.Longer.{made_last}
use Rattle.pl_facts.specs.declared.entry.Entry.{Entry}
use Rattle.pl_facts.specs.declared.fact.Event.{Event}
use Rattle.pl_facts.specs.declared.fact.Event.TheVariants as event
use Rattle.pl_facts.specs.declared.fact.Fact.{Fact}
use Rattle.pl_granting_laws.specs.Histories.{AreOrderly, MayCome}
use Rattle.pl_history.specs.Legal.{Legal, LegalFrom}
use Rattle.pl_history.specs.History.{Opening, held_of, log_of, opened}
use Rattle.pl_journal.specs.About.{second_of}
use Rattle.pl_journal.specs.Log.{Log, last_run}
use Rattle.pl_journal.specs.Runs.{queueing}
use Rattle.pl_log.specs.Keys.{Queue, Run, names, same_key}
use Rattle.pl_step.specs.Below.pl_queueing.specs.Queueing.{Made}
use Rattle.pl_requests.specs.declared.call.Call.{Call}
use Rattle.pl_granting_laws.specs.Below.pl_settling.proofs.Adding.{kept_along}
use Rattle.pl_granting_laws.specs.Below.pl_settling.proofs.Occupying.{quiet_if}
use Rattle.pl_history.specs.Claims.{IsOrderly}
use Rattle.pl_granting_laws.specs.Below.pl_settling.specs.Gives.{Gives}
use Rattle.pl_granting_laws.specs.Below.pl_settling.specs.Settles.{Adds}
use Rattle.pl_step.specs.Full.{last_number, with_facts}
use Rattle.pl_step.specs.Step.{happened}
use Rattle.pl_step.specs.declared.held.Held.{Held}
use Rattle.pl_history.proofs.Entering.{IsEntered}
use Rattle.pl_history.proofs.Happening.{Happens, MayHappen}
use Rattle.pl_history.proofs.Keeping.{AreBelow, no_start, numbers_stay, with_one}
use Rattle.pl_history.proofs.Requesting.{is_fresh, number_stays}
use Rattle.pl_history.proofs.Standing.{adds, all_with, along_last, entered, few_with, first_facts}
use Rattle.pl_history.proofs.Standing.{first_last, may, one_for}

-- ---- what stays: the facts are orderly, and no run's number is above the last

pub record Orderly (log : Log) : Type 0 where
  pub orderly : AreOrderly log.facts
  pub below : AreBelow log

-- settling keeps them orderly, and what may come does
abbrev pub Settling : Type 0
Settling = (moment : ℕ) (facts added : List Fact) → Adds moment facts added → AreOrderly facts →
    AreOrderly (facts ++ added)

abbrev pub Coming : Type 0
Coming = (facts : List Fact) (one : Fact) → MayCome facts one.event → AreOrderly facts →
    AreOrderly (facts ++ one ∷ [])

-- ---- numbers of runs

not_queueing : (facts : List Fact) (moment : ℕ) (told : Event) → Gives facts moment told →
    names (second_of told) Queue ≡ false
not_queueing facts moment (event.RunQueued told) none = absurd none
not_queueing facts moment _ due = refl

due_below : (log : Log) (moment : ℕ) (one : Fact) → Gives log.facts moment one.event →
    AreBelow log → AreBelow (with_one log one)
due_below log moment one is below =
    numbers_stay log one (quiet_if log.facts moment one is).run
    (not_queueing log.facts moment one.event is) below

module _ (log : Log) (one : Fact) (few : last_run (with_one log one) ≤ last_number)
    (below : AreBelow log) where
  told_below : (told : Event) → one.event ≡ told → Happens log told →
      AreBelow (with_one log one)
  told_below (event.RunQueued told) e is = number_stays log one told e is few below
  told_below (event.RunCanceled run) e is =
      numbers_stay log one (λ r. rw e (no_start (same_key (Run run) (Run r)))) (rw e refl) below
  told_below _ e is = numbers_stay log one (λ r. rw e refl) (rw e refl) below

  told_may : (told : Event) → one.event ≡ told → Happens log told → MayCome log.facts told
  told_may (event.RunQueued told) e is = is_fresh log one told e is few below
  told_may (event.StageStarted run stage) e none = absurd none
  told_may (event.StageEnded run stage outcome rule) e none = absurd none
  told_may _ e is = tt

happened_orderly : Coming → (log : Log) (one : Fact) → last_run (with_one log one) ≤ last_number →
    Happens log one.event → Orderly log → Orderly (with_one log one)
happened_orderly coming log one few happens was = record {
  orderly =
      coming log.facts one (told_may log one few was.below one.event refl happens) was.orderly;
  below = told_below log one few was.below one.event refl happens;
}

-- ---- the facts of one entry

module _ (settling : Settling) (coming : Coming) (held : Held) (log : Log) (call : Call)
    (made : Made) (added : List Fact) (is : IsEntered held log call made added)
    (was : Orderly log) where
  abbrev BelowAt : List Fact → Type 0
  BelowAt facts = AreBelow (record log { facts = facts })

  due_adds : Adds call.moment log.facts is.due
  due_adds = adds held log call made added is

  pub settled : Orderly (with_facts log is.due)
  settled = record {
    orderly = settling call.moment log.facts is.due due_adds was.orderly;
    below = along_last BelowAt log.facts is.due was.below
        (kept_along BelowAt call.moment (λ facts one at gives below.
        due_below (record log { facts = facts }) call.moment one gives below) log.facts is.due
        due_adds was.below);
  }

  by_event : (told : Option Event) → MayHappen (with_facts log is.due) told →
      added ≡ is.due ++ happened call.moment told → Orderly (with_facts log added)
  by_event None happens are = subst (λ (more : List Fact). Orderly (with_facts log more))
      (sym (are ∙ append-nil is.due)) settled
  by_event (Some told) happens are =
      subst (λ (facts : List Fact). Orderly (record log { facts = facts }))
      (sym (all_with held log call made added is told are))
      (happened_orderly coming (with_facts log is.due) (one_for held log call made added is told)
      (few_with held log call made added is told are) happens settled)

  entry_orderly : Orderly (with_facts log added)
  entry_orderly = by_event is.answer.event (may held log call made added is) is.are

-- ---- the whole history

installed_orderly : (log : Log) (count : ℕ) → Orderly log →
    Orderly (record log { installed = count })
installed_orderly log count was = record { orderly = was.orderly; below = was.below }

orderly_more : (opening : Opening) (before : List Entry) (entry : Entry) →
    Orderly (with_facts (log_of opening before) entry.facts) →
    Orderly (log_of opening (before ++ entry ∷ []))
orderly_more opening before entry was =
    subst Orderly (made_last opening before entry)
    (installed_orderly (with_facts (log_of opening before) entry.facts)
    (length (with_facts (log_of opening before) entry.facts).facts) was)

module _ (settling : Settling) (coming : Coming) (opening : Opening) where
  orderly_from : (before entries : List Entry) → Orderly (log_of opening before) →
      LegalFrom opening before entries → Orderly (log_of opening (before ++ entries))
  orderly_from before [] was legal =
      subst (λ (es : List Entry). Orderly (log_of opening es)) (sym (append-nil before)) was
  orderly_from before (entry ∷ entries) was legal =
      let is = entered opening before entry legal.0 in
      subst (λ (es : List Entry). Orderly (log_of opening es))
      (append_assoc before (entry ∷ []) entries)
      (orderly_from (before ++ entry ∷ []) entries
      (orderly_more opening before entry
      (entry_orderly settling coming (held_of opening before) (log_of opening before) entry.call is.0
      entry.facts is.1 was)) legal.1)

  first_orderly : IsOrderly opening → Orderly (log_of opening [])
  first_orderly first = record {
    orderly = subst AreOrderly (sym (first_facts opening)) first.orderly;
    below = λ run there.
        let was : ¬ (queueing run opening.facts ≡ None) =
        subst (λ (fs : List Fact). ¬ (queueing run fs ≡ None)) (first_facts opening) there in
        omega (arith, first.numbers run was, first_last opening);
  }

  pub orderly_all : (entries : List Entry) → IsOrderly opening → Legal opening entries →
      Orderly (log_of opening entries)
  orderly_all entries first legal = orderly_from [] entries (first_orderly first) legal

pub new_orderly : AreOrderly [] → (admin : Digest) → IsOrderly (opened admin)
new_orderly none admin = record {
  orderly = none;
  numbers = λ run there. absurd (there refl);
}
