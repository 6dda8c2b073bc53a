-- What is compiled before the turn in which it is used.
use Rattle.std.specs.Prelude.{◌≡◌, ◌<◌, List, Some}
use mathlib.Core.List.{IsPrefix}
use Rattle.pl_opening.specs.Below.pl_compilation.specs.Made.{IsMadeOf}
use Rattle.pl_facts.specs.declared.entry.Entry.{Entry}
use Rattle.pl_opening.specs.Below.pl_history.specs.History.{log_of}
use Rattle.pl_opening.specs.Below.pl_history.specs.Made.{WantsFor}
use Rattle.pl_requests.specs.declared.call.Call.{Call}
use Rattle.pl_service.specs.Past.{Past}
use Rattle.pl_service.specs.declared.ahead.Ahead.{Ahead}
use Rattle.pl_snapshots.specs.declared.snapshot.Snapshot.{Snapshot}

-- a call wanted it behind a beginning of the entries, and it was compiled
pub record IsAhead (past : Past) (call : Call) (ahead : Ahead) : Type 0 where
  pub before : List Entry
  pub begins : IsPrefix before past.entries
  pub wants : WantsFor (log_of past.opening before) call (Some ahead.snapshot)
  pub made : IsMadeOf ahead.snapshot ahead.made

-- neither the files moved nor the root, as far as their count tells, which has a last value
abbrev pub IsCurrent : Snapshot → Snapshot → Type 0
IsCurrent old new =
    (old.version ≡ new.version) × (old.version < 18446744073709551615) × (old.root ≡ new.root)

-- where they didn't, it is what the call wants now that was compiled
abbrev pub Stands : Snapshot → Ahead → Type 0
Stands now ahead = IsCurrent ahead.snapshot now → IsMadeOf now ahead.made
