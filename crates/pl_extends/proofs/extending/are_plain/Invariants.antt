use Rattle.std.proofs.Common.{◌≡◌, drop}
use Rattle.pl_extends.specs.Extending.{are_plain}
use Rattle.pl_extends.proofs.extending.are_plain.Given as goal

abbrev pub invariant-loop-pair : goal.invariant-loop-pair
invariant-loop-pair l = are_plain l.pairs ≡ are_plain (drop l.pair-index l.pair-items)
