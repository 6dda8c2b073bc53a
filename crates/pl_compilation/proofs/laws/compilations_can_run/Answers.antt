use Rattle.pl_compilation.proofs.Runnable.{compiled_can_run}
use Rattle.pl_compilation.proofs.laws.compilations_can_run.Goals as goal

pub returns : goal.returns
returns c = compiled_can_run
