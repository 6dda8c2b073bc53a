use Rattle.std.proofs.Common.{◌≡◌}
use Rattle.pl_line.specs.Rows.{size}
use Rattle.pl_yaml.specs.BlockScalars.{first_column}
use Rattle.pl_yaml.proofs.block_scalar.first_column.Given as goal

abbrev pub invariant-loop-line : goal.invariant-loop-line
invariant-loop-line l = first_column l.ahead ≡ first_column l.fn.ahead

abbrev pub decreases-loop-line : goal.decreases-loop-line
decreases-loop-line l = size l.ahead
