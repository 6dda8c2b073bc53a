use Rattle.pl_sessions.proofs.Endings.{ends_at_once}
use Rattle.pl_sessions.proofs.session.serve.Goals as goal

pub returns-in-Err : goal.returns-in-Err
returns-in-Err g c = ends_at_once _
