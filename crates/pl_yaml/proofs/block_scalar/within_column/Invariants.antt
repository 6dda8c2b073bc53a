use Rattle.std.proofs.Common.{◌≡◌}
use Rattle.pl_line.specs.Rows.{size}
use Rattle.pl_yaml.specs.BlockScalars.{within_column}
use Rattle.pl_yaml.proofs.block_scalar.within_column.Given as goal

abbrev pub invariant-loop-line : goal.invariant-loop-line
invariant-loop-line l = within_column l.column l.ahead ≡ within_column l.column l.fn.ahead

abbrev pub decreases-loop-line : goal.decreases-loop-line
decreases-loop-line l = size l.ahead
