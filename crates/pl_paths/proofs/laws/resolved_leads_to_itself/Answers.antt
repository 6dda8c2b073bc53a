use Rattle.pl_paths.proofs.Resolved.{is_resolved}
use Rattle.pl_paths.proofs.laws.resolved_leads_to_itself.Goals as goal

pub returns : goal.returns
returns c = is_resolved c.args._file.now c.args._path.now
