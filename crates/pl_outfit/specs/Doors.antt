-- The doors of an outfit.
use Rattle.std.specs.Prelude.{◌≡◌, ◌+◌, ◌-◌, ℕ, Bool, false, nat_lt, List, [], Option, None}
use Rattle.std.specs.Prelude.{Result, Ok, Err}
use Rattle.std.specs.Option.{IfSome}
use Rattle.pl_listener.specs.Handles.{Handle}
use Rattle.pl_outfit.specs.Stores.{and_one, one_more_if}

-- The addresses that were asked for and the handles that were ended, in order, where it tells them;
-- how many handles of the door that was opened last are out: given, and not ended; and how often a
-- door couldn't be opened, or a handle was ended of which a call had failed.
pub record Doors : Type 0 where
  pub asked : Option (List (List ℕ))
  pub back : Option (List Handle)
  pub out : ℕ
  pub faults : ℕ

-- a handle was ended
abbrev pub ended : Handle → Doors → Doors
ended handle doors = record doors {
  back = and_one doors.back handle;
  out = doors.out - 1;
  faults = one_more_if (nat_lt 0 handle.faults) doors.faults;
}

-- a door was opened, and its first handle was given
abbrev pub opened_at : List ℕ → Doors → Doors
opened_at address doors = record doors { asked = and_one doors.asked address; out = 1 }

-- one more handle was given
abbrev pub with_one_more : Doors → Doors
with_one_more doors = record doors { out = doors.out + 1 }

-- one was where there is one
abbrev pub shared_by : {H F : Type 0} → Result H F → Doors → Doors
shared_by (Ok handle) doors = with_one_more doors
shared_by (Err fault) doors = doors

-- none was, since it couldn't be, or since memory was wanting
abbrev pub refused_at : List ℕ → Bool → Doors → Doors
refused_at address failed doors = record doors {
  asked = and_one doors.asked address;
  faults = one_more_if failed doors.faults;
}

-- a handle of which no call was made
pub record IsNew (handle : Handle) : Type 0 where
  pub out : handle.out ≡ None
  pub accepted : handle.accepted ≡ 0
  pub passed : IfSome handle.passed (λ links. links ≡ [])
  pub closed : handle.closed ≡ false
  pub found_closed : handle.found_closed ≡ false
  pub faults : handle.faults ≡ 0
