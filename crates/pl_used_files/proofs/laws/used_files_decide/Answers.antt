use Rattle.pl_used_files.proofs.Rooted.{decide}
use Rattle.pl_used_files.proofs.laws.used_files_decide.Goals as goal

pub returns : goal.returns
returns c = decide
