-- What the service holds at most: entries, their texts, and numbers of 18 digits.
use Rattle.std.specs.Prelude.{ℕ, nat_le, nat_lt, ◌+◌, ◌++◌, Bool, false, ◌||◌, List, [], ◌∷◌, take}
use Rattle.pl_facts.specs.Sizes.{size_with}
use Rattle.pl_facts.specs.declared.fact.Fact.{Fact}
use Rattle.pl_journal.specs.Log.{Log, last_run, version}
use Rattle.pl_requests.specs.declared.request.Request.{Request}
use Rattle.pl_row_changes.specs.Counting.{row_changes}
use Rattle.pl_step.specs.declared.held.Held.{Held}

abbrev pub most_entries : ℕ
most_entries = 1048576

abbrev pub most_bytes : ℕ
most_bytes = 268435456

abbrev pub last_number : ℕ
last_number = 999999999999999999

-- with the facts that the entry adds
abbrev pub with_facts : Log → List Fact → Log
with_facts log added = record log { facts = log.facts ++ added }

-- without those that aren't installed
abbrev pub back : Log → Log
back log = record log { facts = take log.installed log.facts }

abbrev pub has_long_number : Log → Bool
has_long_number log = nat_lt last_number (last_run log) || nat_lt last_number (version log)

-- behind these facts, which are one entry more: it would be one too many, the texts of all too
-- long, or the number of a run or the version of the files too great
abbrev pub is_large : Held → Log → Request → List Fact → Bool
is_large held log asked added =
    nat_le most_entries held.entries
    || (nat_lt most_bytes (held.size + size_with asked added) || has_long_number log)

-- the number of the next change behind the entry, which counts the rows that the entry changes
abbrev pub next_change : Held → Log → List Fact → ℕ
next_change held log added = held.change + row_changes log.facts added

-- the same of facts that are to come behind these, or that number would be too great
abbrev pub is_full : Held → Log → Request → List Fact → Bool
is_full held log asked added = is_large held (with_facts log added) asked added
    || nat_lt last_number (next_change held log added)

-- a call that adds nothing is no entry, and is never too much
abbrev pub is_too_much : Held → Log → Request → List Fact → Bool
is_too_much held log asked [] = false
is_too_much held log asked (fact ∷ added) = is_full held log asked (fact ∷ added)
