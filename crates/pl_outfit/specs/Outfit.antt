-- What the program has of the outside.
use Rattle.std.specs.Prelude.{◌≡◌, ℕ, Bool, true, false, List, Option, Result, Ok, Err}
use Rattle.std.specs.Borrow.{Lends, MutBor, Fml}
use denote.RattleType.{RattleType}
use Rattle.pl_base.specs.Streams.{with_end}
use Rattle.pl_base.specs.declared.paired.Paired.{Paired}
use Rattle.pl_base.specs.declared.row.Row.{Row}
use Rattle.pl_base.specs.declared.sink.Sink as the_sink
use Rattle.pl_base.specs.declared.source.Source as the_source
use Rattle.pl_base.specs.contracts.paired.Paired as paired
use Rattle.pl_keeper.specs.declared.fault.KeeperFault.{KeeperFault}
use Rattle.pl_keeper.specs.declared.fault.KeeperFault.TheVariants as keeper
use Rattle.pl_listener.specs.Handles.{Handle}
use Rattle.pl_listener.specs.declared.fault.ListenFault.{ListenFault}
use Rattle.pl_listener.specs.declared.fault.ListenFault.TheVariants as listener
use Rattle.pl_outfit.specs.Doors.{Doors, IsNew, opened_at, refused_at as no_door_at}
use Rattle.pl_outfit.specs.Outside.{Lines, Outside}
use Rattle.pl_outfit.specs.Stores.{BeginsWith, Stores, given_at, refused_at as no_store_at}
use Rattle.pl_sessions.specs.Told.{Told}

-- the source and the sink, the moments that the next clock will tell, the lines that it tells
-- people itself, the bytes that people were told, where it tells them, its stores, and its doors
pub record View (In Out : Type 0) : Type 0 where
  pub ends : Paired In Out
  pub coming : Option (ℕ → ℕ)
  pub lines : Lines
  pub people : Option (List ℕ)
  pub stores : Stores
  pub doors : Doors

-- the outfit ends with what is left behind the loan as its ends
abbrev pub LendsEnds : (O In Out : RattleType) → (O.Denot → Paired In.Denot Out.Denot → O.Denot)
    → MutBor O.Denot → MutBor (Paired In.Denot Out.Denot) → Fml
LendsEnds O In Out with_ends outfit ends =
    Lends O (paired.the_row In Out) outfit ends (with_ends outfit.now)

-- a source and a sink tell what the link does that they are
abbrev pub told_by_ends : {In Out : Type 0} → the_source.Ghosts In → the_sink.Ghosts Out
    → Paired In Out → Told
told_by_ends reading writing ends = record {
  left = reading.left ends.source;
  ended = reading.ended ends.source;
  held = writing.held ends.sink;
  read_faults = reading.faults ends.source;
  write_faults = writing.faults ends.sink;
}

-- what an outfit tells, by what its source and its sink tell
abbrev pub outside : {In Out : Type 0} → the_source.Ghosts In → the_sink.Ghosts Out → View In Out
    → Outside
outside reading writing view = record {
  link = told_by_ends reading writing view.ends;
  coming = view.coming;
  lines = view.lines;
  people = view.people;
  stores = view.stores;
  doors = view.doors;
}

-- no store was given, and people were told its line
abbrev pub GivesNoStore : {In Out : Type 0} → Option (List ℕ) → Bool → View In Out → View In Out
    → Type 0
GivesNoStore path failed old new =
    new ≡ record old {
      people = with_end old.people (old.lines.no_store path failed);
      stores = no_store_at path failed old.stores;
    }

-- a store was given of which no call was made; or it couldn't be, or memory was wanting
abbrev pub GivesStore : {K In Out : Type 0} → (K → Option (List Row)) → (K → ℕ)
    → Option (List ℕ) → View In Out → Result K KeeperFault → View In Out → Type 0
GivesStore held faults path old (Ok store) new =
    BeginsWith path old.stores.rows (held store) × (faults store ≡ 0)
    × (new ≡ record old { stores = given_at path old.stores })
GivesStore held faults path old (Err keeper.Failed) new = GivesNoStore path true old new
GivesStore held faults path old (Err keeper.Memory) new = GivesNoStore path false old new

-- people were told this line, and the doors are these
abbrev pub TellsOfDoor : {In Out : Type 0} → List ℕ → Doors → View In Out → View In Out → Type 0
TellsOfDoor line doors old new =
    new ≡ record old { people = with_end old.people line; doors = doors }

-- the first handle of a door was given; or the door couldn't be opened, or memory was wanting
abbrev pub GivesDoor : {D In Out : Type 0} → (D → Handle) → List ℕ → View In Out
    → Result D ListenFault → View In Out → Type 0
GivesDoor tells address old (Ok door) new =
    IsNew (tells door)
    × TellsOfDoor (old.lines.door address) (opened_at address old.doors) old new
GivesDoor tells address old (Err listener.Failed) new =
    TellsOfDoor (old.lines.no_door address true) (no_door_at address true old.doors) old new
GivesDoor tells address old (Err listener.Memory) new =
    TellsOfDoor (old.lines.no_door address false) (no_door_at address false old.doors) old new
