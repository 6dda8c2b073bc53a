-- What the command `replay` does.
use Rattle.std.specs.Prelude.{◌≡◌, ◌≢◌, ◌<◌, ◌⊎◌, ℕ, false, List, [], length, Option, Some, None}
use Rattle.pl_alone.specs.Desk.{Act, Parts, past}
use Rattle.pl_base.specs.declared.digest.Digest.{Digest}
use Rattle.pl_base.specs.declared.row.Row.{Row}
use Rattle.pl_alone.specs.Below.pl_core.specs.Rows.{AreKept}
use Rattle.pl_alone.specs.Below.pl_core.specs.State.{new_state}
use Rattle.pl_alone.specs.Below.pl_history.specs.Access.{IsSound}
use Rattle.pl_alone.specs.Below.pl_history.specs.Claims.{IsOrderly}
use Rattle.pl_alone.specs.Below.pl_history.specs.History.{opened}
use Rattle.pl_keeper.specs.Keeping.{WhereTold}
use Rattle.pl_outfit.specs.Outside.{Outside}
use Rattle.pl_outfit.specs.Stores.{BeginsWith, handed_back}
use Rattle.pl_outfit.specs.declared.status.Status.{Status}
use Rattle.pl_outfit.specs.declared.status.Status.TheVariants as status
use Rattle.pl_alone.specs.Below.pl_service.specs.Begun.{IsBegun}
use Rattle.pl_alone.specs.Below.pl_service.specs.Rows.{AreSame, StayKept}
use Rattle.pl_sessions.specs.Messages.{Spelled}
use Rattle.pl_sessions.specs.Session.{Point, Session}
use Rattle.pl_sessions.specs.declared.served.Served.{Served}
use Rattle.pl_sessions.specs.declared.served.Served.TheVariants as ended
use Rattle.pl_streams.specs.Whole.{taken_limit}
use Rattle.pl_unopened.specs.Unopened.{HasNoStore, Unopens, with_store}
use Rattle.pl_wire.specs.declared.message.Message.{Message}

-- the status of a link that was served, by how it was until
abbrev pub status_of : Served → Status
status_of ended.Ended = status.Finished
status_of (ended.Cut len) = status.NotWhole
status_of (ended.Bad fault) = status.NotWhole
status_of ended.Spent = status.Spent
status_of ended.Stopped = status.Finished
status_of ended.ReadFault = status.ReadFault
status_of ended.WriteFault = status.WriteFault
status_of ended.Memory = status.Memory

-- where a replay starts
abbrev pub start : Parts → Outside → Point Parts
start desk outside = record { link = outside.link; coming = outside.coming; desk = desk }

-- One session from the source to the sink, which goes on behind a shutdown. Then the store is
-- handed back: where it tells its rows, they are those of what has happened, if they were before.
pub record ReplaysAt (first : Parts) (old : Outside) (ending : Status) (new : Outside)
    : Type 0 where
  pub served : Served
  pub later : Option (ℕ → ℕ)
  pub last : Parts
  pub ending_is : ending ≡ status_of served
  pub goes_on : served ≢ ended.Stopped
  pub session :
      Session Act false (start first old)
      (record { link = new.link; coming = later; desk = last }) served
  pub rows : WhereTold first.rows last.rows (StayKept (past first) (past last))
  pub is :
      new ≡ record old {
        link = new.link;
        stores = handed_back last.rows last.faults old.stores;
      }

-- The same at a service that was just opened of the rows of a store. Where these are none, as those
-- of a store in memory are, it is opened for the first time: its rows are kept from there on, and
-- what is said of sound and of orderly openings holds of it.
pub record Replayed (admin : Digest) (path : Option (List ℕ)) (old : Outside) (ending : Status)
    (new : Outside) : Type 0 where
  pub told : Option (List Row)
  pub begins : BeginsWith path old.stores.rows told
  pub first : Parts
  pub begun : IsBegun admin first.rows (past first)
  pub as_given : WhereTold told first.rows AreSame
  pub quiet : first.faults ≡ 0
  pub anew : first.rows ≡ Some [] → first.opening ≡ opened admin
  pub sound : IsSound (opened admin)
  pub orderly : IsOrderly (opened admin)
  pub kept : AreKept (new_state admin) []
  pub replays : ReplaysAt first (with_store path old) ending new

-- there was no store; or no service could be opened of its rows; or the messages were answered
abbrev pub Replays : Digest → Option (List ℕ) → Outside → Status → Outside → Type 0
Replays admin path old ending new =
    HasNoStore path old ending new
    ⊎ (Unopens admin path old ending new ⊎ Replayed admin path old ending new)

-- how a replay ends that reads whole messages to their end: with 0, unless a fault was counted, a
-- row is torn, or memory was wanting
abbrev pub FinishesUnlessBroken : Status → Type 0
FinishesUnlessBroken status.Usage = ⊥
FinishesUnlessBroken status.ListenerFault = ⊥
FinishesUnlessBroken status.Refused = ⊥
FinishesUnlessBroken status.NotWhole = ⊥
FinishesUnlessBroken status.Spent = ⊥
FinishesUnlessBroken other = Unit {0}

-- over a source that tells whole messages alone, of fewer bytes than may be taken
abbrev pub WholeInputFinishes : Type 0
WholeInputFinishes = (admin : Digest) (path : Option (List ℕ)) (old : Outside) (ending : Status)
    (new : Outside) (bytes : List ℕ) (messages : List Message)
    → old.link.left ≡ Some bytes → Spelled bytes messages [] → length bytes < taken_limit
    → Replays admin path old ending new → FinishesUnlessBroken ending
