use Rattle.std.proofs.Common.{◌≡◌, ◌≤◌, drop, length, map}
use Rattle.std.specs.FinMap as finite
use Rattle.pl_seeing.specs.Seeing.{pair_of}
use Rattle.pl_seeing.proofs.making.file_set.Given as goal

abbrev pub invariant-loop-left : goal.invariant-loop-left
invariant-loop-left l = record {
  within : l.left ≤ length l.told;
  files : l.files ≡ finite.from_entries (map pair_of (drop l.left l.told));
}

abbrev pub decreases-loop-left : goal.decreases-loop-left
decreases-loop-left l = l.left
