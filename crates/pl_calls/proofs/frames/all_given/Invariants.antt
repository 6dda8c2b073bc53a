use Rattle.std.proofs.Common.{◌≡◌, map, take}
use Rattle.pl_calls.specs.Calls.{given_across}
use Rattle.pl_calls.proofs.frames.all_given.Given as goal

abbrev pub invariant-loop-pair : goal.invariant-loop-pair
invariant-loop-pair l = l.all ≡ map (given_across l.border) (take l.pair-index l.pairs)
