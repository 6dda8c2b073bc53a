-- Four handles of a door.
use Rattle.std.specs.Prelude.{◌≡◌, ◌⊎◌, ℕ, Bool, true, false, List, [], ◌∷◌, length}
use Rattle.std.specs.Prelude.{Result, Ok, Err}
use Rattle.std.specs.List.{AllByRecursion}
use Rattle.pl_base.specs.Counts.{one_more}
use Rattle.pl_base.specs.Streams.{with_end}
use Rattle.pl_listener.specs.Handles.{Handle}
use Rattle.pl_listener.specs.declared.fault.ListenFault.{ListenFault}
use Rattle.pl_listener.specs.declared.fault.ListenFault.TheVariants as fault
use Rattle.pl_outfit.specs.Doors.{Doors, IsNew, ended, opened_at, refused_at}
use Rattle.pl_outfit.specs.Outside.{Outside}
use Rattle.pl_serve.specs.declared.four.Four.{Four}

-- handles were ended, one after the other
abbrev pub all_ended : List Handle → Doors → Doors
all_ended [] doors = doors
all_ended (handle ∷ handles) doors = all_ended handles (ended handle doors)

-- people were told this line, and the doors are these
abbrev pub with_door : List ℕ → Doors → Outside → Outside
with_door line doors old = record old { people = with_end old.people line; doors = doors }

-- whether the listener failed
abbrev pub has_failed : ListenFault → Bool
has_failed fault.Failed = true
has_failed fault.Memory = false

-- no call of them was made
pub record AreNew {L : Type 0} (tells : L → Handle) (doors : Four L) : Type 0 where
  pub first : IsNew (tells doors.first)
  pub second : IsNew (tells doors.second)
  pub third : IsNew (tells doors.third)
  pub fourth : IsNew (tells doors.fourth)

-- a door was opened, and so many handles of it are out
abbrev pub opened_for : ℕ → List ℕ → Doors → Doors
opened_for count address doors = record (opened_at address doors) { out = count }

-- a door was opened, so many handles of it are out, and people were told the outfit's line
pub record OpensFor (count : ℕ) (address : List ℕ) (old new : Outside) : Type 0 where
  pub is : new ≡ with_door (old.lines.door address) (opened_for count address old.doors) old

-- four handles are
abbrev pub Opens : List ℕ → Outside → Outside → Type 0
Opens address old new = OpensFor 4 address old new

-- none was, and people were told the outfit's line
pub record OpensNone (address : List ℕ) (why : ListenFault) (old new : Outside) : Type 0 where
  pub is :
      new ≡ with_door (old.lines.no_door address (has_failed why))
      (refused_at address (has_failed why) old.doors) old

-- one was, but it couldn't be shared in four: as many handles were ended as were given, and none
-- had given a link
pub record SharesNone (address : List ℕ) (why : ListenFault) (old new : Outside) : Type 0 where
  pub handles : List Handle
  pub none : AllByRecursion (λ (handle : Handle). handle.accepted ≡ 0) handles
  pub is :
      new ≡ with_door (old.lines.door address)
      (all_ended handles (opened_for (length handles) address old.doors)) old

-- where the listener failed it was counted, and nothing else was
abbrev pub counted : ListenFault → ℕ → ℕ
counted fault.Failed count = one_more count
counted fault.Memory count = count

-- nobody can be served
abbrev pub HasNoDoors : List ℕ → ListenFault → Outside → Outside → Type 0
HasNoDoors address why old new =
    (OpensNone address why old new ⊎ SharesNone address why old new)
    × (new.doors.faults ≡ counted why old.doors.faults)

-- four handles of a door that was opened; or why there are none
abbrev pub OpensFour : {L : Type 0} → (L → Handle) → List ℕ → Outside
    → Result (Four L) ListenFault → Outside → Type 0
OpensFour tells address old (Ok doors) new = AreNew tells doors × Opens address old new
OpensFour tells address old (Err why) new = HasNoDoors address why old new
