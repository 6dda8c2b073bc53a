use Rattle.std.proofs.Common.{◌≡◌, [], drop}
use Rattle.pl_calls.specs.Calls.{arguments_behind}
use Rattle.pl_calls.specs.Seeing.{pairs_of}
use Rattle.pl_calls.proofs.call.arguments_in.Given as goal

abbrev pub invariant-loop-pair : goal.invariant-loop-pair
invariant-loop-pair l =
    arguments_behind [] l.pairs
    ≡ arguments_behind (pairs_of l.found) (drop l.pair-index l.pairs)
