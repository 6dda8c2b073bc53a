use Rattle.pl_service.proofs.Growing.{grows}
use Rattle.pl_service.specs.Desk.{Act}
use Rattle.pl_sessions.proofs.Through.{acts_through}
use Rattle.pl_hall.proofs.laws.sessions_grow.Goals as goal

pub returns : goal.returns
returns g c parts heeds old new ending session =
    grows (parts old.desk) (parts new.desk) session.turns
    (acts_through parts Act old.desk session.turns new.desk session.acts)
