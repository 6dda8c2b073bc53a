-- What a desk is behind messages.
use Rattle.std.specs.Prelude.{◌≡◌, ◌<◌, ◌⊎◌, List, [], ◌∷◌}
use mathlib.Core.List.{IsPrefix}
use Rattle.pl_alone.specs.Desk.{Act, Parts, past}
use Rattle.pl_service.specs.Below.pl_history.specs.Legal.{Legal}
use Rattle.pl_keeper.specs.Keeping.{WhereTold}
use Rattle.pl_service.specs.Rows.{StayKept}
use Rattle.pl_sessions.specs.Acts.{Acts, Turn}
use Rattle.pl_sessions.specs.declared.answer.Answer.TheVariants.{KeeperFault}

-- the keeper failed at one of them
abbrev pub HasFailed : List Turn → Type 0
HasFailed [] = ⊥
HasFailed (turn ∷ turns) = (turn.answer ≡ KeeperFault) ⊎ HasFailed turns

-- Behind the messages it is a desk of the same service, whose entries go on from those before and
-- are a legal history if they were one. Where its rows are told and were those of the service, they
-- are those of the service. The keeper's count is above 0 where it failed, and else as it was.
pub record Lasts (old : Parts) (turns : List Turn) (new : Parts) : Type 0 where
  pub opening : new.opening ≡ old.opening
  pub begins : IsPrefix old.seen new.seen
  pub legal : Legal old.opening old.seen → Legal new.opening new.seen
  pub rows : WhereTold old.rows new.rows (StayKept (past old) (past new))
  pub failed : HasFailed turns → 0 < new.faults
  pub quiet : (¬ HasFailed turns) → new.faults ≡ old.faults

abbrev pub DesksLast : Type 0
DesksLast = (old new : Parts) (turns : List Turn) → Acts Act old turns new → Lasts old turns new
