-- What a clerk's seat is behind a session.
use Rattle.std.specs.Prelude.{ℕ, Bool}
use Rattle.pl_service.specs.Desk.{Act, Parts}
use Rattle.pl_service.specs.Grown.{Grew}
use Rattle.pl_sessions.specs.Session.{Point, Session}
use Rattle.pl_sessions.specs.declared.answer.Answer.{Answer}
use Rattle.pl_sessions.specs.declared.served.Served.{Served}
use Rattle.pl_wire.specs.declared.message.Message.{Message}

module _ {D : Type 0} (parts : D → Parts) where
  -- what a message makes of the parts of one who answers, as of a clerk's seat
  abbrev pub acts_by : D → ℕ → Message → Answer → D → Type 0
  acts_by old moment message answer new = Act (parts old) moment message answer (parts new)

  -- behind a session the own entries grew by those of its messages
  abbrev pub SessionsGrow : Type 0
  SessionsGrow =
      (heeds : Bool) (old new : Point D) (ending : Served)
      (session : Session acts_by heeds old new ending)
      → Grew (parts old.desk) session.turns (parts new.desk)
