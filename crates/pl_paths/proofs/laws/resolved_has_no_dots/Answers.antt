use Rattle.pl_paths.proofs.Resolved.{has_no_dots}
use Rattle.pl_paths.proofs.laws.resolved_has_no_dots.Goals as goal

pub returns : goal.returns
returns c = has_no_dots c.args._path.now
