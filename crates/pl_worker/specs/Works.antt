-- What a worker did: which links it served, and why it ended.
use Rattle.std.specs.Prelude.{◌≡◌, ℕ, Bool, true, false, List, Option, None}
use Rattle.pl_base.specs.Counts.{one_more}
use Rattle.pl_listener.specs.Handles.{Handle, TakesAsOpen, handed_back, shut}
use Rattle.pl_sessions.specs.Session.{Session}
use Rattle.pl_sessions.specs.Told.{Told}
use Rattle.pl_sessions.specs.declared.answer.Answer.{Answer}
use Rattle.pl_sessions.specs.declared.served.Served.{Served}
use Rattle.pl_wire.specs.declared.message.Message.{Message}
use Rattle.pl_worker.specs.Chain.{Visit, Chain, Stopping, counted, is_stopped, point_of}
use Rattle.pl_worker.specs.Chain.{with_visits}
use Rattle.pl_worker.specs.Ends.{was_stopped}
use Rattle.pl_worker.specs.declared.why.Why.{Why}
use Rattle.pl_worker.specs.declared.why.Why.TheVariants as why

-- where a worker stands: its desk, the moments that its clock will tell, and its handle
pub record Stand (D : Type 0) : Type 0 where
  pub desk : D
  pub coming : Option (ℕ → ℕ)
  pub handle : Handle

abbrev pub stand : {D : Type 0} → D → Option (ℕ → ℕ) → Handle → Stand D
stand desk coming handle = record { desk = desk; coming = coming; handle = handle }

-- the handle closed the door or not
abbrev pub shut_if : Bool → Handle → Handle
shut_if true handle = shut handle
shut_if false handle = handle

-- The link that is out was served, and was handed back; the door was closed before that where the
-- link ended with an accepted shutdown, and not otherwise.
pub record ServesOne {D : Type 0} (act : D → ℕ → Message → Answer → D → Type 0) (given : Told)
    (old : Stand D) (ending : Served) (new : Stand D) : Type 0 where
  pub left : Told
  pub session :
      Session act true (point_of given old.coming old.desk) (point_of left new.coming new.desk)
      ending
  pub back : new.handle ≡ handed_back (shut_if (is_stopped ending) old.handle) left

-- Links were served, one after the other, and each was handed back; the last one ended with an
-- accepted shutdown or not, and no other did.
pub record ServesAll {D : Type 0} (act : D → ℕ → Message → Answer → D → Type 0) (old : Stand D)
    (stopped : Bool) (new : Stand D) : Type 0 where
  pub visits : List Visit
  pub chain : Chain act old.desk old.coming visits new.desk new.coming
  pub stops : Stopping stopped visits
  pub passed : new.handle.passed ≡ with_visits old.handle.passed visits
  pub accepted : new.handle.accepted ≡ counted old.handle.accepted visits
  pub out : new.handle.out ≡ None

-- a fault of the listener was counted where it failed, and nowhere else
abbrev pub CountsFault : Why → ℕ → ℕ → Type 0
CountsFault why.Failed old new = new ≡ one_more old
CountsFault other old new = new ≡ old

-- The worker took the door as open and closed it itself; or it found it closed, and its handle
-- tells so.
abbrev pub ClosesDoor : Why → Handle → Handle → Type 0
ClosesDoor why.Closed old new = (new.closed ≡ old.closed) × (new.found_closed ≡ true)
ClosesDoor other old new = TakesAsOpen old × (new.closed ≡ true) × (new.found_closed ≡ false)

-- all that a worker did until it ended
pub record Works {D : Type 0} (act : D → ℕ → Message → Answer → D → Type 0) (old : Stand D)
    (reason : Why) (new : Stand D) : Type 0 where
  pub serves : ServesAll act old (was_stopped reason) new
  pub faults : CountsFault reason old.handle.faults new.handle.faults
  pub closed : ClosesDoor reason old.handle new.handle
