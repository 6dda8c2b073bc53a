use Rattle.std.proofs.Common.{◌≡◌, length, map, take}
use Rattle.pl_seeing.specs.Seeing.{pair_of}
use Rattle.pl_seeing.proofs.same.are_files.Given as goal

abbrev pub invariant-loop-at : goal.invariant-loop-at
invariant-loop-at l = record {
  same : take l.at l.files ≡ map pair_of (take l.at l.told);
  lens : length l.told ≡ length l.files;
}
