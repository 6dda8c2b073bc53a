use Rattle.pl_sources.proofs.Again.{compiles_again}
use Rattle.pl_sources.proofs.One.{one}
use Rattle.pl_sources.proofs.laws.sources_compile_again.Goals as goal

pub returns-clause-again : goal.returns-clause-again
returns-clause-again c = compiles_again

pub returns-clause-one : goal.returns-clause-one
returns-clause-one c = one
