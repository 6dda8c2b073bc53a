-- What the command `serve` does.
use Rattle.std.specs.Prelude.{◌≡◌, ◌⊎◌, ℕ, List, [], ◌∷◌, Option, Some}
use Rattle.pl_base.specs.declared.digest.Digest.{Digest}
use Rattle.pl_base.specs.declared.row.Row.{Row}
use Rattle.pl_facts.specs.declared.entry.Entry.{Entry}
use Rattle.pl_serve.specs.Below.pl_history.specs.History.{Opening}
use Rattle.pl_serve.specs.Below.pl_history.specs.Legal.{Legal}
use Rattle.pl_keeper.specs.Keeping.{WhereTold}
use Rattle.pl_listener.specs.Handles.{Handle}
use Rattle.pl_listener.specs.declared.fault.ListenFault.{ListenFault}
use Rattle.pl_outfit.specs.Outside.{Outside}
use Rattle.pl_outfit.specs.Stores.{BeginsWith, handed_back}
use Rattle.pl_outfit.specs.declared.status.Status.{Status}
use Rattle.pl_serve.specs.History.{OneHistory}
use Rattle.pl_serve.specs.declared.four.Four.{Four}
use Rattle.pl_serve.specs.declared.four.Outside.{Outside as Given}
use Rattle.pl_serve.specs.Below.pl_service.specs.Begun.{IsBegun}
use Rattle.pl_serve.specs.Below.pl_service.specs.Kept.{IsKeptAt}
use Rattle.pl_serve.specs.Below.pl_service.specs.Rows.{AreSame}
use Rattle.pl_serving.specs.Doors.{AreNew, HasNoDoors, Opens, all_ended}
use Rattle.pl_serving.specs.Statuses.{end_status, fault_status}
use Rattle.pl_unopened.specs.Unopened.{HasNoStore, Unopens, with_store}
use Rattle.pl_worker.specs.Ends.{end_of}
use Rattle.pl_worker.specs.declared.why.End.{End}
use Rattle.pl_worker.specs.declared.why.Reasons.{Reasons}

module _ {L C : Type 0} (coming : C → Option (ℕ → ℕ)) where
  -- a worker begins with this handle, and a clock that the outfit gave
  pub record StartsWith (old : Outside) (door : L) (given : Given L C) : Type 0 where
    pub door_is : given.door ≡ door
    pub clock : coming given.clock ≡ old.coming

  -- each of four
  pub record Start (old : Outside) (doors : Four L) (given : Four (Given L C)) : Type 0 where
    pub first : StartsWith old doors.first given.first
    pub second : StartsWith old doors.second given.second
    pub third : StartsWith old doors.third given.third
    pub fourth : StartsWith old doors.fourth given.fourth

-- what four handles tell
abbrev pub handles_of : {L C : Type 0} → (L → Handle) → Four (Given L C) → List Handle
handles_of tells left =
    tells left.first.door ∷ tells left.second.door ∷ tells left.third.door
    ∷ tells left.fourth.door ∷ []

-- What a store tells of its rows at the end, where it does: they are those of a legal history of
-- the service, if its opening is as `IsKeepable` says.
pub record KeepsRows (opening : Opening) (rows : Option (List Row)) : Type 0 where
  pub entries : List Entry
  pub legal : Legal opening entries
  pub kept : ∥ IsKeptAt opening entries rows ∥₁

-- there were no four handles; the store was handed back
pub record ServesNobody (opening : Opening) (address : List ℕ) (old : Outside) (ending : Status)
    (new : Outside) : Type 0 where
  pub why : ListenFault
  pub ending_is : ending ≡ fault_status why
  pub between : Outside
  pub none : HasNoDoors address why old between
  pub rows : Option (List Row)
  pub faults : ℕ
  pub keeps : KeepsRows opening rows
  pub is : new ≡ record between { stores = handed_back rows faults between.stores }

module _ {L C : Type 0} (coming : C → Option (ℕ → ℕ)) (tells : L → Handle) where
  -- Four workers served the links of four handles at a service with this opening, of which nothing
  -- had happened: all of it is one history, of which the store's rows are, where it tells them.
  -- Each handle was ended, the store was handed back, and the status says why the workers ended.
  pub record ServesLinks (opening : Opening) (doors : Four L) (old : Outside) (ending : Status)
      (new : Outside) : Type 0 where
    pub given : Four (Given L C)
    pub left : Four (Given L C)
    pub reasons : Reasons
    pub rows : Option (List Row)
    pub faults : ℕ
    pub start : Start coming old doors given
    pub history : OneHistory coming tells opening rows given reasons left
    pub end : End
    pub ends : end_of reasons ≡ Some end
    pub ending_is : ending ≡ end_status end
    pub is :
        new ≡ record old {
          stores = handed_back rows faults old.stores;
          doors = all_ended (handles_of tells left) old.doors;
        }

  -- the same of four handles of a door that was opened at an address
  pub record ServesAt (opening : Opening) (address : List ℕ) (old : Outside) (ending : Status)
      (new : Outside) : Type 0 where
    pub between : Outside
    pub opens : Opens address old between
    pub doors : Four L
    pub new_doors : AreNew tells doors
    pub serves : ServesLinks opening doors between ending new

  -- nobody was served, or the links that a door gave
  abbrev pub ServesHall : Opening → List ℕ → Outside → Status → Outside → Type 0
  ServesHall opening address old ending new =
      ServesNobody opening address old ending new ⊎ ServesAt opening address old ending new

  -- a service was opened of the rows of a store, which it goes on with
  pub record Served (admin : Digest) (address : List ℕ) (path : Option (List ℕ)) (old : Outside)
      (ending : Status) (new : Outside) : Type 0 where
    pub told : Option (List Row)
    pub begins : BeginsWith path old.stores.rows told
    pub first : Option (List Row)
    pub as_given : WhereTold told first AreSame
    pub opening : Opening
    pub begun : IsBegun admin first (record { opening = opening; entries = [] })
    pub serves : ServesHall opening address (with_store path old) ending new

  -- there was no store; or no service could be opened of its rows; or there was one
  abbrev pub Serves : Digest → List ℕ → Option (List ℕ) → Outside → Status → Outside → Type 0
  Serves admin address path old ending new =
      HasNoStore path old ending new
      ⊎ (Unopens admin path old ending new ⊎ Served admin address path old ending new)
