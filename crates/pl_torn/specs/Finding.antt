-- Where rows in order are parted by a place.
use Rattle.std.specs.Prelude.{◌≡◌, ℕ, ◌≤◌, Bool, true, false, if◌then◌else◌, List, length}
use Rattle.std.specs.Prelude.{Option, Some, None}
use Rattle.std.specs.List.{AllWithin}
use Rattle.std.specs.Ordering.{is_lt}
use Rattle.pl_changes.specs.Differing.{stands_at}
use Rattle.pl_keeper.specs.Keeping.{place, place_cmp}
use Rattle.pl_torn.specs.declared.seen.Seen.{Seen}

abbrev pub is_before : ℕ × List ℕ → Seen → Bool
is_before at one = is_lt (place_cmp (place one.row.now) at)

-- so many come before the place, and none of the others does
pub record IsCut (at : ℕ × List ℕ) (all : List Seen) (count : ℕ) : Type 0 where
  pub within : count ≤ length all
  pub front : AllWithin (λ one. is_before at one ≡ true) all 0 count
  pub back : AllWithin (λ one. is_before at one ≡ false) all count (length all)

-- what stands there, if it is at the place
abbrev pub if_there : ℕ × List ℕ → Seen → Option Seen
if_there at one = if stands_at at one.row.now then Some one else None
