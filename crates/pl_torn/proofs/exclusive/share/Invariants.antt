use Rattle.std.proofs.Common.{◌≡◌, drop}
use Rattle.pl_torn.specs.Exclusive as spec
use Rattle.pl_torn.proofs.exclusive.share.Given as goal

abbrev pub invariant-loop-key : goal.invariant-loop-key
invariant-loop-key l =
    spec.share l.all (drop l.key-index l.uses) l.others ≡ spec.share l.all l.uses l.others
