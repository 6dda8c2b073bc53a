-- What is prepared and installed is what a service answers to a call.
use Rattle.std.proofs.Common.{◌≡◌, ◌+◌, ◌++◌, ℕ, List, [], ◌∷◌, Option, Some, None, length, refl}
use Rattle.std.proofs.Common.{sym, ap, subst, ◌∙◌, append-nil, max, Result, IfOk, OnErr, IfSome}
use Rattle.pl_base.specs.declared.memory.Memory.{Memory}
use Rattle.pl_opening.specs.Below.pl_core.specs.Prepared.{IsEntryOf, added_by, entries_with}
use Rattle.pl_opening.specs.Below.pl_core.specs.Prepared.{installed, next_number}
use Rattle.pl_opening.specs.Below.pl_core.specs.State.{State, held, log}
use Rattle.pl_facts.specs.declared.entry.Entry.{Entry}
use Rattle.pl_facts.specs.declared.fact.Fact.{Fact}
use Rattle.pl_opening.specs.Below.pl_history.specs.Claims.{IsOrderly}
use Rattle.pl_opening.specs.Below.pl_history.specs.Guarded.{IsAnswered, IsGuarded}
use Rattle.pl_opening.specs.Below.pl_history.specs.History.{log_of}
use Rattle.pl_opening.specs.Below.pl_history.specs.Made.{IsMadeFor, WantsFor}
use Rattle.pl_journal.specs.Log.{last_moment}
use Rattle.pl_keeper.specs.declared.fault.KeeperFault.{KeeperFault}
use Rattle.pl_opening.specs.Below.pl_queueing.specs.Queueing.{Made}
use Rattle.pl_requests.specs.declared.call.Call.{Call}
use Rattle.pl_requests.specs.declared.reply.Reply.{Reply}
use Rattle.pl_service.proofs.Standing.{ahead_lifted}
use Rattle.pl_service.specs.Ahead.{IsAhead}
use Rattle.pl_service.specs.Past.{Answers, Past, lifted, recorded}
use Rattle.pl_service.specs.declared.ahead.Ahead.{Ahead}
use Rattle.pl_snapshots.specs.declared.snapshot.Snapshot.{Snapshot}
use Rattle.pl_opening.specs.Below.pl_step.specs.Step.{IsStep, stepped_with}

-- ---- the entry is that of the call

abbrev made_of : ℕ → ℕ → Call → List Fact → Entry
made_of number seat call facts =
    record { number = number; seat = seat; call = call; facts = facts }

entry_is : (number seat : ℕ) (call : Call) (facts : List Fact) (entry : Entry)
    → entry.number ≡ number → entry.seat ≡ seat → entry.call ≡ call → entry.facts ≡ facts
    → entry ≡ made_of number seat call facts
entry_is number seat call facts entry number_is seat_is call_is facts_are =
    ap (λ n. made_of n entry.seat entry.call entry.facts) number_is
    ∙ ap (λ n. made_of number n entry.call entry.facts) seat_is
    ∙ ap (λ (c : Call). made_of number seat c entry.facts) call_is
    ∙ ap (made_of number seat call) facts_are

pub recorded_is : (seat : ℕ) (before : List Entry) (call : Call) (entry : Option Entry)
    → IsEntryOf (length before + 1) seat call entry
    → entries_with before entry ≡ before ++ recorded seat before call (added_by entry)
recorded_is seat before call None is = sym (append-nil before)
recorded_is seat before call (Some entry) is = by_facts entry.facts refl
  where
    by_facts : (facts : List Fact) → entry.facts ≡ facts
        → before ++ entry ∷ [] ≡ before ++ recorded seat before call facts
    by_facts [] none = absurd (is.adds none)
    by_facts (fact ∷ more) same =
        ap (λ (one : Entry). before ++ one ∷ [])
        (entry_is (length before + 1) seat call (fact ∷ more) entry is.number_is is.seat_is
        is.call_is same)

-- ---- by the states on the way

module _ (first prepared last : State) (seat : ℕ) (call : Call) (made : Made)
    (entry : Option Entry) (reply given : Reply)
    (opening_is : prepared.opening ≡ first.opening) (entries_are : prepared.entries ≡ first.entries)
    (last_is : last ≡ installed entry prepared) where
  pub last_opening : last.opening ≡ first.opening
  last_opening = ap (λ (state : State). state.opening) last_is ∙ opening_is

  pub answers : IsMadeFor (log first) call made →
      IsStep (held first) (log first) call made (stepped_with given (added_by entry)) →
      IsEntryOf (next_number first) seat call entry → reply ≡ given →
      IsGuarded last.opening last.entries →
      (IsOrderly first.opening →
      IsAnswered first.opening first.entries call (stepped_with given (added_by entry))) →
      let old : Past = record { opening = first.opening; entries = first.entries } in
      let new : Past = record { opening = last.opening; entries = last.entries } in
      Answers seat old call reply new
  answers made_is steps is reply_is guarded answered = record {
    made = made;
    is = made_is;
    added = added_by entry;
    steps =
        subst (λ (told : Reply). IsStep (held first) (log first) call made
        (stepped_with told (added_by entry))) (sym reply_is) steps;
    opening = last_opening;
    entries =
        ap (λ (state : State). state.entries) last_is
        ∙ ap (λ (entries : List Entry). entries_with entries entry) entries_are
        ∙ recorded_is seat first.entries call entry is;
    guarded = guarded;
    answered =
        subst (λ (told : Reply). IsOrderly first.opening →
        IsAnswered first.opening first.entries call (stepped_with told (added_by entry)))
        (sym reply_is) answered;
  }

-- ---- a state without what was prepared is the same past

abbrev pub past_at : State → Past
past_at state = record { opening = state.opening; entries = state.entries }

pub past_back : (first back : State) → back ≡ record first { pending = [] }
    → past_at back ≡ past_at first
past_back first back is = ap (λ (state : State). past_at state) is

module _ (first back : State) (is : back ≡ record first { pending = [] }) where
  pub answered_by : (seat : ℕ) (call : Call) (later moment : ℕ) (result : Result Reply KeeperFault)
      (new : Past) → later ≡ max call.moment moment → moment ≡ last_moment (log back)
      → IfOk result (λ reply. Answers seat (past_at back) (record call { moment = later }) reply
      new)
      → IfOk result (λ reply. Answers seat (past_at first) (lifted (past_at first) call) reply new)
  answered_by seat call later moment result new later_is moment_is told =
      subst (λ (past : Past). IfOk result (λ reply. Answers seat past (lifted past call) reply new))
      (past_back first back is)
      (subst (λ (m : ℕ). IfOk result (λ reply. Answers seat (past_at back)
      (record call { moment = m }) reply new))
      (later_is ∙ ap (λ (m : ℕ). max call.moment m) moment_is) told)

  pub same_by : (result : Result Reply KeeperFault) (new : Past)
      → OnErr result (new ≡ past_at back) → OnErr result (new ≡ past_at first)
  same_by result new told =
      subst (λ (past : Past). OnErr result (new ≡ past)) (past_back first back is) told

  pub ahead_by : (call later : Call) (ahead : Option Ahead) → later.caller ≡ call.caller
      → later.request ≡ call.request → IfSome ahead (IsAhead (past_at first) call)
      → IfSome ahead (IsAhead (past_at back) later)
  ahead_by call later ahead caller request told =
      subst (λ (past : Past). IfSome ahead (IsAhead past later)) (sym (past_back first back is))
      (ahead_lifted (past_at first) call later ahead caller request told)

  pub wants_by : (call : Call) (result : Result (Option Snapshot) Memory)
      → IfOk result (WantsFor (log back) call) → IfOk result (WantsFor (log first) call)
  wants_by call result told =
      subst (λ (past : Past). IfOk result (WantsFor (log_of past.opening past.entries) call))
      (past_back first back is) told
