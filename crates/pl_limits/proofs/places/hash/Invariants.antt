use Rattle.std.proofs.Common.{◌≡◌, ◌<◌, length}
use Rattle.pl_limits.specs.Places.{hash, hash_from}
use Rattle.pl_limits.proofs.places.hash.Given as goal

abbrev pub invariant-loop-left : goal.invariant-loop-left
invariant-loop-left l = record {
  told : hash_from l.told l.left ≡ hash l.text;
  short : l.told < 4294967296;
}

abbrev pub decreases-loop-left : goal.decreases-loop-left
decreases-loop-left l = length l.left
