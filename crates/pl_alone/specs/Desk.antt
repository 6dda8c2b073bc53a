-- What a desk makes of a message that it is given, and what it answers.
use Rattle.std.specs.Prelude.{◌≡◌, ℕ, List, Option}
use Rattle.pl_alone.specs.declared.alone.Alone.{Alone}
use Rattle.pl_base.specs.Counts.{one_more}
use Rattle.pl_base.specs.declared.digest.Digest.{Digest}
use Rattle.pl_base.specs.declared.row.Row.{Row}
use Rattle.pl_facts.specs.declared.entry.Entry.{Entry}
use Rattle.pl_service.specs.Below.pl_history.specs.History.{Opening}
use Rattle.pl_service.specs.Below.pl_history.specs.Legal.{Legal}
use Rattle.pl_keeper.specs.Keeping.{WhereTold}
use Rattle.pl_keeper.specs.declared.keeper.Keeper as the_keeper
use Rattle.pl_requests.specs.declared.call.Call.{Call}
use Rattle.pl_requests.specs.declared.reply.Reply.{Reply as Replied}
use Rattle.pl_requests.specs.declared.request.Request.{Request}
use Rattle.pl_service.specs.Past.{Answers, Past, lifted}
use Rattle.pl_service.specs.Rows.{AreSame, StayKept}
use Rattle.pl_sessions.specs.declared.answer.Answer.{Answer}
use Rattle.pl_sessions.specs.declared.answer.Answer.TheVariants.{Reply, KeeperFault, Memory}
use Rattle.pl_wire.specs.Refusals.{reply_to_refused}
use Rattle.pl_wire.specs.declared.message.Message.{Message}
use Rattle.pl_wire.specs.declared.message.Message.TheVariants.{Ask, Refused}

-- The parts of a desk: what its service was opened with, and the entries since that it has seen;
-- the rows that are kept, where the keeper tells them, and how often the keeper failed.
pub record Parts : Type 0 where
  pub opening : Opening
  pub seen : List Entry
  pub rows : Option (List Row)
  pub faults : ℕ

abbrev pub parts : {K : Type 0} (tells : the_keeper.Ghosts K) → Alone K tells → Parts
parts tells desk = record {
  opening = desk.service.core.opening;
  seen = desk.service.core.entries;
  rows = tells.held desk.service.keeper;
  faults = tells.faults desk.service.keeper;
}

-- what its service has been through
abbrev pub past : Parts → Past
past desk = record { opening = desk.opening; entries = desk.seen }

-- the call that a request is: its moment is the later of the clock's and the last entry's
abbrev pub call_at : Parts → ℕ → Digest → Request → Call
call_at old moment caller request =
    lifted (past old) (record { moment = moment; caller = caller; request = request })

-- The reply is the step's, and the call is an entry of the one seat there is where it adds facts;
-- all entries are a legal history. Where the keeper's rows are told and were those of the service,
-- they are those of the service: the keeper applied what the entry changes.
pub record Serves (old : Parts) (call : Call) (reply : Replied) (new : Parts) : Type 0 where
  pub answers : Answers 0 (past old) call reply (past new)
  pub legal : Legal new.opening new.seen
  pub rows : WhereTold old.rows new.rows (StayKept (past old) (past new))
  pub faults : new.faults ≡ old.faults

-- nothing is added, and no row changes
pub record Stays (old new : Parts) : Type 0 where
  pub past_is : past new ≡ past old
  pub rows : WhereTold old.rows new.rows AreSame

-- The answer is the step's reply, and the call an entry where it adds facts; or the keeper failed,
-- in this call; or memory was wanting. A message that is no request gets the reply of its fault,
-- and leaves the desk as it was.
abbrev pub Act : Parts → ℕ → Message → Answer → Parts → Type 0
Act old moment (Ask caller request) (Reply reply) new =
    Serves old (call_at old moment caller request) reply new
Act old moment (Ask caller request) KeeperFault new =
    Stays old new × (new.faults ≡ one_more old.faults)
Act old moment (Ask caller request) Memory new = Stays old new × (new.faults ≡ old.faults)
Act old moment (Refused fault) (Reply reply) new = (reply ≡ reply_to_refused fault) × (new ≡ old)
Act old moment (Refused fault) KeeperFault new = ⊥
Act old moment (Refused fault) Memory new = new ≡ old
