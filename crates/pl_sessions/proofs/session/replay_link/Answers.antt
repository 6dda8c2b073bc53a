use Rattle.pl_sessions.proofs.Endings.{no_stop}
use Rattle.pl_sessions.proofs.session.replay_link.Goals as goal

pub returns-clause-goes_on : goal.returns-clause-goes_on
returns-clause-goes_on g c = no_stop _ _ c.serve.result c.serve.ensures
