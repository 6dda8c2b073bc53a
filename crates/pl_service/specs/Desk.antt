-- What a desk makes of a message that it is given, and what it answers.
use Rattle.std.specs.Prelude.{◌≡◌, ◌<◌, ◌≤◌, ◌++◌, ℕ, List, Option, Some, None}
use mathlib.Core.List.{IsPrefix}
use Rattle.atomic_table.specs.Seated.{TableId}
use Rattle.pl_base.specs.declared.digest.Digest.{Digest}
use Rattle.pl_facts.specs.declared.entry.Entry.{Entry}
use Rattle.pl_opening.specs.Below.pl_history.specs.History.{Opening}
use Rattle.pl_opening.specs.Below.pl_history.specs.Legal.{Legal}
use Rattle.pl_requests.specs.declared.call.Call.{Call}
use Rattle.pl_requests.specs.declared.reply.Reply.{Reply as Replied}
use Rattle.pl_requests.specs.declared.request.Request.{Request}
use Rattle.pl_service.specs.Past.{Answers, Past, lifted, recorded}
use Rattle.pl_sessions.specs.declared.answer.Answer.{Answer}
use Rattle.pl_sessions.specs.declared.answer.Answer.TheVariants.{Reply, KeeperFault, Memory}
use Rattle.pl_wire.specs.Refusals.{reply_to_refused}
use Rattle.pl_wire.specs.declared.message.Message.{Message}
use Rattle.pl_wire.specs.declared.message.Message.TheVariants.{Ask, Refused}

-- The parts of a desk: the lock over its service, or none where it has the service alone; what the
-- service was opened with; the desk's number; the entries since then that it has seen, and those of
-- them that are its own; and how many turns it had, and how many faults of the keeper these
-- counted.
pub record Parts : Type 0 where
  pub lock : Option TableId
  pub opening : Option Opening
  pub number : ℕ
  pub seen : List Entry
  pub mine : List Entry
  pub turns : ℕ
  pub faults : ℕ

-- What holds of a request however it is answered: the desk stays what it was, in one legal history,
-- of which it has seen no less than before. Where there is a lock, a turn was taken for it.
pub record Keeps (old new : Parts) : Type 0 where
  pub lock : new.lock ≡ old.lock
  pub opening : new.opening ≡ old.opening
  pub number : new.number ≡ old.number
  pub begins : IsPrefix old.seen new.seen
  pub legal : (opening : Opening) → new.opening ≡ Some opening → Legal opening new.seen
  pub turns : old.turns ≤ new.turns
  pub turned : (lock : TableId) → old.lock ≡ Some lock → old.turns < new.turns
  pub faults : old.faults ≤ new.faults

-- the call that a request is, as a clock tells the moment
abbrev pub asked : ℕ → Digest → Request → Call
asked moment caller request = record { moment = moment; caller = caller; request = request }

-- Behind the entries that it found, which begin with those that it had seen, and are these where
-- there is no lock, the service answered the call; and the call is the desk's own entry where it
-- adds facts.
pub record Serves (old : Parts) (call : Call) (reply : Replied) (new : Parts) : Type 0 where
  pub opening : Opening
  pub label : old.opening ≡ Some opening
  pub found : List Entry
  pub begins : IsPrefix old.seen found
  pub alone : old.lock ≡ None → found ≡ old.seen
  pub answers :
      (let before : Past = record { opening = opening; entries = found } in
      Answers old.number before (lifted before call) reply
      (record { opening = opening; entries = new.seen }))
  pub mine :
      (let before : Past = record { opening = opening; entries = found } in
      new.mine ≡ old.mine ++ recorded old.number found (lifted before call) answers.added)

-- The answer is the step's reply; or the keeper failed in this call, or memory was wanting, and the
-- call is no entry. A message that is no request gets the reply of its fault, and leaves the desk
-- as it was.
abbrev pub Act : Parts → ℕ → Message → Answer → Parts → Type 0
Act old moment (Ask caller request) (Reply reply) new =
    Keeps old new × Serves old (asked moment caller request) reply new
Act old moment (Ask caller request) KeeperFault new =
    Keeps old new × (new.mine ≡ old.mine) × (old.faults < new.faults)
Act old moment (Ask caller request) Memory new = Keeps old new × (new.mine ≡ old.mine)
Act old moment (Refused fault) (Reply reply) new = (reply ≡ reply_to_refused fault) × (new ≡ old)
Act old moment (Refused fault) KeeperFault new = ⊥
Act old moment (Refused fault) Memory new = new ≡ old
