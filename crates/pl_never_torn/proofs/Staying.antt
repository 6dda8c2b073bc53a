-- What each fact keeps stays along a legal history.
use Rattle.std.proofs.Common.{◌≡◌, ◌≤◌, ℕ, List, [], ◌∷◌, ◌++◌, Option, Some, None, length}
use Rattle.std.proofs.Common.{sym, subst, ◌∙◌, arith}
use Rattle.std.proofs.lemmas.List.{append-nil, append_assoc}
use Rattle.std.specs.List.{AllByRecursion}
use Rattle.pl_facts.specs.declared.entry.Entry.{Entry}
use Rattle.pl_facts.specs.declared.fact.Event.{Event}
use Rattle.pl_facts.specs.declared.fact.Fact.{Fact}
use Rattle.pl_history.specs.History.{Opening, held_of, log_of}
use Rattle.pl_history.specs.Legal.{Follows, Legal, LegalFrom}
use Rattle.pl_history.proofs.Entering.{IsEntered, entered_by}
use Rattle.pl_history.specs.Claims.{IsOrderly}
use Rattle.pl_history.proofs.Claiming.{Exactly, OneRule}
use Rattle.pl_history.proofs.Granted.{may, named_there}
use Rattle.pl_history.proofs.Longer.{legal_more, made_last}
use Rattle.pl_history.proofs.Orderly.{Coming, Orderly, Settling, orderly_all, settled}
use Rattle.pl_history.proofs.Settled.{none_behind}
use Rattle.pl_history.proofs.Standing.{adds, all_with, few_with, one_for}
use Rattle.pl_journal.specs.Log.{Log, last_moment, last_run}
use Rattle.pl_requests.specs.declared.call.Call.{Call}
use Rattle.pl_requests.specs.declared.request.JobName.{JobName}
use Rattle.pl_requests.specs.declared.request.Request.{Request}
use Rattle.pl_requests.specs.declared.request.Request.TheVariants as request
use Rattle.pl_history.specs.Below.pl_queueing.specs.Queueing.{Made}
use Rattle.pl_granting.specs.Below.pl_settling.specs.Settles.{Adds, Settles}
use Rattle.pl_granting.specs.Below.pl_due.specs.Due.{IsDue}
use Rattle.pl_history.specs.Below.pl_step.specs.Full.{last_number, with_facts}
use Rattle.pl_history.specs.Below.pl_step.specs.Step.{SettlesFor, happened}
use Rattle.pl_history.specs.Below.pl_step.specs.declared.held.Held.{Held}
use Rattle.pl_history.specs.Below.pl_compilation.specs.Made.{IsMade}
use Rattle.pl_snapshots.specs.declared.snapshot.Snapshot.{Snapshot}
use Rattle.pl_never_torn.specs.Rising.{NoneLater}
use Rattle.pl_never_torn.proofs.Rising.{joined, one_more as later_more, weaker}
use Rattle.pl_never_torn.proofs.Telling.{Grants, MayTell, Tells, tells}

abbrev pub with_one : Log → Fact → Log
with_one log fact = with_facts log (fact ∷ [])

-- none of these is later than a moment
abbrev pub Before : ℕ → List Fact → Type 0
Before moment facts = AllByRecursion (λ fact. fact.moment ≤ moment) facts

-- what was compiled, of some snapshot, where something was
abbrev pub HasMade : Made → Type 0
HasMade made = (snapshot : Option Snapshot) × IsMade snapshot made

-- what is due keeps it, and so does what happens by a request
pub record Keeps (K : Log → Type 0) : Type 0 where
  pub due : (log : Log) (one : Fact) → Before one.moment log.facts →
      IsDue log.facts one.moment (Some one.event) → K log → K (with_one log one)
  pub asked : (log : Log) (made : Made) (one : Fact) → HasMade made →
      Before one.moment log.facts → last_run (with_one log one) ≤ last_number →
      Tells log made one.event → K log → K (with_one log one)
  pub installed : (log : Log) (count : ℕ) → K log → K (record log { installed = count })

-- ---- the laws that it takes: settled facts stay orderly, and so a claim breaks no rule exactly
-- where the job may be given

pub record Laws : Type 0 where
  pub settling : Settling
  pub coming : Coming
  pub exactly : Exactly
  pub one : OneRule

settled_by : (asked : Request) (moment : ℕ) (facts due : List Fact) → (name : JobName) →
    asked ≡ request.Claim name → SettlesFor asked moment facts due → Settles moment facts due
settled_by asked moment facts due name e settles =
    subst (λ (told : Request). SettlesFor told moment facts due) e settles

module _ (laws : Laws) (K : Log → Type 0) (keeps : Keeps K) where
  -- ---- the facts of one entry

  abbrev At : Log → ℕ → List Fact → Type 0
  At log moment facts = K (record log { facts = facts }) × Before moment facts

  at_with : (moment : ℕ) (facts : List Fact) (one : Fact) → one.moment ≡ moment →
      Before moment facts → Before moment (facts ++ one ∷ [])
  at_with moment facts one at before =
      joined (λ fact. fact.moment ≤ moment) facts (one ∷ []) before (omega (arith, at), tt)

  module _ (held : Held) (log : Log) (call : Call) (made : Made) (added : List Fact)
      (is : IsEntered held log call made added) (has : HasMade made) (orderly : Orderly log)
      (was : K log) (before : Before call.moment log.facts) where
    one_due : (facts : List Fact) (one : Fact) → one.moment ≡ call.moment →
        IsDue facts call.moment (Some one.event) → At log call.moment facts →
        At log call.moment (facts ++ one ∷ [])
    one_due facts one at is_due holds = (
      keeps.due (record log { facts = facts }) one
          (subst (λ moment. Before moment facts) (sym at) holds.1)
          (subst (λ moment. IsDue facts moment (Some one.event)) (sym at) is_due) holds.0,
      at_with call.moment facts one at holds.1,
    )

    due_from : (facts due : List Fact) → Adds call.moment facts due → At log call.moment facts →
        At log call.moment (facts ++ due)
    due_from facts [] none holds =
        subst (At log call.moment) (sym (append-nil facts)) holds
    due_from facts (one ∷ due) (is_due, at, rest) holds =
        subst (At log call.moment) (append_assoc facts (one ∷ []) due)
        (due_from (facts ++ one ∷ []) due rest (one_due facts one at is_due holds))

    all_due : At log call.moment (log.facts ++ is.due)
    all_due = due_from log.facts is.due (adds held log call made added is) (was, before)

    -- what a claim is answered by
    grants : (name : JobName) → call.request ≡ request.Claim name →
        Grants (log.facts ++ is.due) call.moment
    grants name claims = λ who asked broken. may (log.facts ++ is.due) call.moment who asked
        (λ at named. laws.exactly (log.facts ++ is.due) call.moment who at
        (named_there asked (log.facts ++ is.due) at named)
        (settled laws.settling laws.coming held log call made added is orderly).orderly.done
        (none_behind call.moment log.facts is.due
        (settled_by call.request call.moment log.facts is.due name claims is.settles)))
        (λ at left right. laws.one (log.facts ++ is.due) call.moment who at left right) broken

    by_event : (told : Option Event) → MayTell (with_facts log is.due) made told →
        added ≡ is.due ++ happened call.moment told → K (with_facts log added)
    by_event None may are = subst (λ (more : List Fact). K (with_facts log more))
        (sym (are ∙ append-nil is.due)) all_due.0
    by_event (Some told) may are = subst (λ (facts : List Fact). K (record log { facts = facts }))
        (sym (all_with held log call made added is told are))
        (keeps.asked (with_facts log is.due) made (one_for held log call made added is told) has
        all_due.1
        (few_with held log call made added is told are) may all_due.0)

    entry_keeps : K (with_facts log added)
    entry_keeps = by_event is.answer.event
        (tells (with_facts log is.due) made call.moment is.who call.request is.answer grants
        is.answers)
        is.are

  -- ---- the whole history

  more : (opening : Opening) (before : List Entry) (entry : Entry) →
      Orderly (log_of opening before) → NoneLater (log_of opening before) →
      K (log_of opening before) → Follows opening before entry →
      K (log_of opening (before ++ entry ∷ []))
  more opening before entry orderly later was follows =
      let log = log_of opening before in
      let is = entered_by (held_of opening before) log entry.call follows.made follows.reply
      entry.facts follows.adds follows.steps in
      let early : Before entry.call.moment log.facts =
      weaker (λ fact. fact.moment ≤ last_moment log) (λ fact. fact.moment ≤ entry.call.moment)
      (λ fact e. omega (arith, e, follows.later)) log.facts later in
      subst K (made_last opening before entry)
      (keeps.installed (with_facts log entry.facts) (length (with_facts log entry.facts).facts)
      (entry_keeps (held_of opening before) log entry.call follows.made entry.facts is
      (follows.is.0, follows.is.2) orderly was early))

  stays_from : (opening : Opening) → IsOrderly opening → (before entries : List Entry) →
      Legal opening before → NoneLater (log_of opening before) → K (log_of opening before) →
      LegalFrom opening before entries → K (log_of opening (before ++ entries))
  stays_from opening first before [] so_far later was legal =
      subst (λ (es : List Entry). K (log_of opening es)) (sym (append-nil before)) was
  stays_from opening first before (entry ∷ entries) so_far later was legal =
      subst (λ (es : List Entry). K (log_of opening es)) (append_assoc before (entry ∷ []) entries)
      (stays_from opening first (before ++ entry ∷ []) entries
      (legal_more opening [] before entry so_far legal.0)
      (later_more opening before entry later legal.0)
      (more opening before entry
      (orderly_all laws.settling laws.coming opening before first so_far) later was legal.0)
      legal.1)

  pub stays : (opening : Opening) (entries : List Entry) → IsOrderly opening →
      NoneLater (log_of opening []) → K (log_of opening []) → Legal opening entries →
      K (log_of opening entries)
  stays opening entries first later was legal =
      stays_from opening first [] entries tt later was legal
