-- What is prepared for a call, and what installing it leaves.
use Rattle.std.specs.Prelude.{◌≡◌, ◌+◌, ◌++◌, ℕ, List, [], ◌∷◌, length, Option, Some, None}
use Rattle.pl_core.specs.State.{State}
use Rattle.pl_facts.specs.declared.entry.Entry.{Entry}
use Rattle.pl_facts.specs.declared.fact.Fact.{Fact}
use Rattle.pl_history.specs.History.{held_of}
use Rattle.pl_history.specs.Legal.{Follows}
use Rattle.pl_requests.specs.declared.call.Call.{Call}

-- the facts that a call adds
abbrev pub added_by : Option Entry → List Fact
added_by None = []
added_by (Some entry) = entry.facts

-- an entry of this number, seat and call
pub record IsOf (number seat : ℕ) (call : Call) (entry : Entry) : Type 0 where
  pub number_is : entry.number ≡ number
  pub seat_is : entry.seat ≡ seat
  pub call_is : entry.call ≡ call
  pub adds : ¬ (entry.facts ≡ [])

-- a call that adds nothing is no entry
abbrev pub IsEntryOf : ℕ → ℕ → Call → Option Entry → Type 0
IsEntryOf number seat call None = Unit {0}
IsEntryOf number seat call (Some entry) = IsOf number seat call entry

-- it is the next entry, and its facts are there already
abbrev pub IsPrepared : State → Option Entry → Type 0
IsPrepared state None = state.pending ≡ []
IsPrepared state (Some entry) = Follows state.opening state.entries entry
    × (state.pending ≡ entry.facts)

abbrev pub entries_with : List Entry → Option Entry → List Entry
entries_with entries None = entries
entries_with entries (Some entry) = entries ++ entry ∷ []

-- the state with one entry more, if there is one; nothing is prepared any more
abbrev pub installed : Option Entry → State → State
installed entry state = record {
  opening = state.opening;
  entries = entries_with state.entries entry;
  pending = [];
}

abbrev pub next_number : State → ℕ
next_number state = length state.entries + 1

-- the number of the next change of a row, with one entry more, if there is one
abbrev pub next_change : State → Option Entry → ℕ
next_change state entry = (held_of state.opening (entries_with state.entries entry)).change
