use Rattle.std.proofs.Common.{◌≡◌, length, map, take}
use Rattle.pl_limits.proofs.places.slices.Given as goal

abbrev pub invariant-loop-at : goal.invariant-loop-at
invariant-loop-at l = record {
  long : length l.all.items ≡ length l.texts;
  all : map (λ text. text.now) (take l.at l.all.items) ≡ take l.at l.texts;
}
