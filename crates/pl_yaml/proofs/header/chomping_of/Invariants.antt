use Rattle.std.proofs.Common.{◌≡◌, length}
use Rattle.pl_line.specs.Characters.{all_of}
use Rattle.pl_yaml.specs.BlockScalars.{chomping}
use Rattle.pl_yaml.proofs.header.chomping_of.Given as goal

abbrev pub invariant-loop-mark : goal.invariant-loop-mark
invariant-loop-mark l = chomping (all_of l.rest) ≡ chomping (all_of l.marks)

abbrev pub decreases-loop-mark : goal.decreases-loop-mark
decreases-loop-mark l = length (all_of l.rest)
