use Rattle.pl_expr.proofs.Again.{parses_printed}
use Rattle.pl_expr.proofs.Sound.{parses_given}
use Rattle.pl_expr.proofs.Spelled.{parses_spelled}
use Rattle.pl_expr.proofs.laws.grammar_laws.Goals as goal

pub returns : goal.returns
returns c = record {
  spelled = parses_spelled;
  given = parses_given;
  every = parses_printed;
  again = λ mode bytes tree e. parses_printed mode tree (parses_given mode bytes tree e);
}
