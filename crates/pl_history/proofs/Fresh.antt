-- The facts of an entry are new: each run is queued once.
use Rattle.std.proofs.Common.{◌≡◌, ℕ, List, [], ◌∷◌, ◌++◌, ◌≤◌, Option, Some, None, sym, subst}
use Rattle.std.proofs.lemmas.List.{append-nil, append_assoc}
use Rattle.pl_facts.specs.declared.entry.Entry.{Entry}
use Rattle.pl_facts.specs.declared.fact.Event.{Event}
use Rattle.pl_facts.specs.declared.fact.Event.TheVariants as event
use Rattle.pl_facts.specs.declared.fact.Fact.{Fact}
use Rattle.pl_history.specs.Claims.{IsOrderly}
use Rattle.pl_history.specs.History.{Opening, held_of, log_of}
use Rattle.pl_history.specs.Legal.{Follows, Legal}
use Rattle.pl_journal.specs.Log.{Log, last_run}
use Rattle.pl_step.specs.Below.pl_queueing.specs.Queueing.{Made}
use Rattle.pl_requests.specs.declared.call.Call.{Call}
use Rattle.pl_granting_laws.specs.Below.pl_settling.proofs.Giving.{gives}
use Rattle.pl_granting_laws.specs.Below.pl_settling.specs.Gives.{Gives}
use Rattle.pl_granting_laws.specs.Below.pl_settling.specs.Settles.{Adds}
use Rattle.pl_step.specs.Full.{last_number, with_facts}
use Rattle.pl_step.specs.Step.{happened}
use Rattle.pl_step.specs.declared.held.Held.{Held}
use Rattle.pl_step.specs.Below.pl_touched.specs.Touched.{AreNewTo, IsNewTo}
use Rattle.pl_history.proofs.Entering.{IsEntered}
use Rattle.pl_history.proofs.Happening.{Happens, MayHappen}
use Rattle.pl_history.proofs.Keeping.{AreBelow, with_one}
use Rattle.pl_history.proofs.Orderly.{Coming, Orderly, Settling, orderly_all, settled}
use Rattle.pl_history.proofs.Requesting.{is_fresh}
use Rattle.pl_history.proofs.Standing.{adds, entered, few_with, may, one_for}

new_append : (facts xs ys : List Fact) → AreNewTo facts xs → AreNewTo (facts ++ xs) ys →
    AreNewTo facts (xs ++ ys)
new_append facts [] ys left right =
    subst (λ (fs : List Fact). AreNewTo fs ys) (append-nil facts) right
new_append facts (x ∷ xs) ys left right = (
  left.0,
  new_append (facts ++ x ∷ []) xs ys left.1
      (subst (λ (fs : List Fact). AreNewTo fs ys) (sym (append_assoc facts (x ∷ []) xs)) right),
)

-- nothing that is due queues a run
due_new : (facts : List Fact) (moment : ℕ) (told : Event) → Gives facts moment told →
    IsNewTo facts told
due_new facts moment (event.RunQueued told) none = absurd none
due_new facts moment _ due = tt

all_due : (moment : ℕ) (facts due : List Fact) → Adds moment facts due → AreNewTo facts due
all_due moment facts [] adds = tt
all_due moment facts (one ∷ due) (is, at, rest) = (
  due_new facts moment one.event (gives facts moment one.event is),
  all_due moment (facts ++ one ∷ []) due rest,
)

module _ (log : Log) (one : Fact) (few : last_run (with_one log one) ≤ last_number)
    (below : AreBelow log) where
  told_new : (told : Event) → one.event ≡ told → Happens log told → IsNewTo log.facts told
  told_new (event.RunQueued told) e is = is_fresh log one told e is few below
  told_new _ e is = tt

module _ (settling : Settling) (coming : Coming) (held : Held) (log : Log) (call : Call)
    (made : Made) (added : List Fact) (is : IsEntered held log call made added)
    (was : Orderly log) where
  happened_new : (told : Option Event) → MayHappen (with_facts log is.due) told →
      added ≡ is.due ++ happened call.moment told →
      AreNewTo (log.facts ++ is.due) (happened call.moment told)
  happened_new None happens are = tt
  happened_new (Some told) happens are = (
    told_new (with_facts log is.due) (one_for held log call made added is told)
        (few_with held log call made added is told are)
        (settled settling coming held log call made added is was).below told (λ i. told) happens,
    tt,
  )

  entry_new : AreNewTo log.facts added
  entry_new = subst (λ (more : List Fact). AreNewTo log.facts more) (sym is.are)
      (new_append log.facts is.due (happened call.moment is.answer.event)
      (all_due call.moment log.facts is.due (adds held log call made added is))
      (happened_new is.answer.event (may held log call made added is) is.are))

pub all_new : Settling → Coming → (opening : Opening) (entries : List Entry) (entry : Entry) →
    IsOrderly opening → Legal opening entries → Follows opening entries entry →
    AreNewTo (log_of opening entries).facts entry.facts
all_new settling coming opening entries entry first legal follows =
    let is = entered opening entries entry follows in
    entry_new settling coming (held_of opening entries) (log_of opening entries) entry.call is.0
    entry.facts is.1 (orderly_all settling coming opening entries first legal)
