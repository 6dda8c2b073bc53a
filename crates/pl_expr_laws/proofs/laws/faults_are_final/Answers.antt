use Rattle.pl_expr_laws.proofs.Onward.{nothing_goes_on}
use Rattle.pl_expr_laws.proofs.Deeper.{refused_has_none}
use Rattle.pl_expr_laws.proofs.laws.faults_are_final.Goals as goal

pub returns : goal.returns
returns c = record { none = refused_has_none; onward = nothing_goes_on }
