-- Moments that rise.
use Rattle.std.specs.Prelude.{◌≤◌}
use Rattle.std.specs.List.{AllByRecursion}
use Rattle.pl_journal.specs.Log.{Log, last_moment}

-- no fact is later than the last moment
abbrev pub NoneLater : Log → Type 0
NoneLater log = AllByRecursion (λ fact. fact.moment ≤ last_moment log) log.facts
