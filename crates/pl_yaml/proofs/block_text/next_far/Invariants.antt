use Rattle.std.proofs.Common.{◌≡◌, length}
use Rattle.pl_yaml.specs.BlockScalars.{next_line}
use Rattle.pl_yaml.proofs.block_text.next_far.Given as goal

abbrev pub invariant-loop-line : goal.invariant-loop-line
invariant-loop-line l = next_line l.ahead ≡ next_line l.lines

abbrev pub decreases-loop-line : goal.decreases-loop-line
decreases-loop-line l = length l.ahead
