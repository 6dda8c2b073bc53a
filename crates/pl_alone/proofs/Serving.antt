-- What a service answers is what its desk makes of a request.
use Rattle.std.proofs.Common.{◌≡◌, List, Option, refl}
use Rattle.pl_alone.specs.Desk.{Parts, Serves, Stays, past}
use Rattle.pl_base.specs.declared.row.Row.{Row}
use Rattle.pl_service.specs.Below.pl_history.specs.Legal.{Legal}
use Rattle.pl_keeper.specs.Keeping.{WhereTold}
use Rattle.pl_requests.specs.declared.call.Call.{Call}
use Rattle.pl_requests.specs.declared.reply.Reply.{Reply}
use Rattle.pl_service.specs.Past.{Answers}
use Rattle.pl_service.specs.Rows.{AreSame, StayKept}

pub serves : (old new : Parts) (call : Call) (reply : Reply)
    → Answers 0 (past old) call reply (past new) → Legal new.opening new.seen
    → WhereTold old.rows new.rows (StayKept (past old) (past new)) → new.faults ≡ old.faults
    → Serves old call reply new
serves old new call reply answers legal rows faults = record {
  answers = answers;
  legal = legal;
  rows = rows;
  faults = faults;
}

pub stays : (old new : Parts) → past new ≡ past old → WhereTold old.rows new.rows AreSame
    → Stays old new
stays old new is rows = record { past_is = is; rows = rows }
