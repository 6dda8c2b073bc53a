use Rattle.pl_origins.proofs.Kept.{keeps}
use Rattle.pl_origins.proofs.laws.calls_keep_what_was_extended.Goals as goal

pub returns : goal.returns
returns c = keeps
