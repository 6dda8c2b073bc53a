use Rattle.pl_provenance.proofs.Through.{steps_through}
use Rattle.pl_provenance.proofs.laws.steps_come_through_the_template.Goals as goal

pub returns : goal.returns
returns c = steps_through
