use Rattle.std.proofs.Common.{codes, refl}
use Rattle.pl_schema_parts.proofs.Ends.{no_end}
use Rattle.pl_schema_parts.proofs.variables.before_bracket.Goals as goal

pub returns-in-None : goal.returns-in-None
returns-in-None c = no_end c.args.text.now (codes "]") _ refl c.in-None.ensures.cases _
