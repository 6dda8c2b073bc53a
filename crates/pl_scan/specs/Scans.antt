-- What a scanner knows of bytes.
use Rattle.std.specs.Prelude.{ℕ, ◌≤◌, List, [], ◌∷◌, ◌++◌, length, take}
use Rattle.pl_scan.specs.declared.place.Place.{Place}
use Rattle.pl_scan.specs.declared.scanner.Scanner.{Scanner}
use Rattle.pl_scan.specs.Places.{EndsAt}

-- bytes that end at the one place end at the other when this byte came
abbrev pub Leads : Place → ℕ → Place → Type 0
Leads from byte to = (bytes : List ℕ) → EndsAt from bytes → EndsAt to (bytes ++ byte ∷ [])

-- the front of the bytes that was seen ends at the scanner's place
pub record Follows (scanner : Scanner) (bytes : List ℕ) : Type 0 where
  pub within : scanner.seen ≤ length bytes
  pub ends : EndsAt scanner.place (take scanner.seen bytes)
