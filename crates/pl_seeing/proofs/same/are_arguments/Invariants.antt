use Rattle.std.proofs.Common.{◌≡◌, length, take}
use Rattle.pl_seeing.proofs.same.are_arguments.Given as goal

abbrev pub invariant-loop-at : goal.invariant-loop-at
invariant-loop-at l = record {
  same : take l.at l.arguments ≡ take l.at l.told;
  lens : length l.told ≡ length l.arguments;
}
