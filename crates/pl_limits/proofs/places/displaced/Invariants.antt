use Rattle.std.proofs.Common.{◌≡◌, length, map, take}
use Rattle.pl_limits.proofs.Seen.{seen}
use Rattle.pl_limits.proofs.Taken.{ArePlaced}
use Rattle.pl_limits.proofs.places.displaced.Given as goal

abbrev pub invariant-loop-at : goal.invariant-loop-at
invariant-loop-at l = record {
  room : length l.places.items ≡ l.room;
  placed : ArePlaced (λ text. text.now) l.room (map (λ text. text.now) (take l.at l.texts))
      (seen l.texts l.places.items) l.rest.items;
}
