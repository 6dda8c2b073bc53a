use Rattle.std.proofs.Common.{◌≡◌, [], drop}
use Rattle.pl_extends.specs.Extending.{arguments_given}
use Rattle.pl_extends.proofs.extending.arguments_given.Given as goal

abbrev pub invariant-loop-pair : goal.invariant-loop-pair
invariant-loop-pair l =
    arguments_given [] l.pairs ≡ arguments_given l.found (drop l.pair-index l.pair-items)
