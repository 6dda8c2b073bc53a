use Rattle.std.proofs.Common.{◌≡◌, take}
use Rattle.pl_line.specs.Keys.{IsNumbered}
use Rattle.pl_line.proofs.keys.places_of.Given as goal

abbrev pub invariant-loop-pair : goal.invariant-loop-pair
invariant-loop-pair l = (l.at ≡ l.pair-index) × IsNumbered l.places (take l.pair-index l.pairs)
