use Rattle.pl_yaml_laws.proofs.Breaks.{line_breaks_are_alike}
use Rattle.pl_yaml_laws.proofs.laws.line_breaks_are_alike.Goals as goal

pub returns : goal.returns
returns c = line_breaks_are_alike
