use Rattle.std.proofs.Common.{◌≡◌, find, drop}
use Rattle.pl_base.specs.Texts.{is}
use Rattle.pl_calls.proofs.parts.key_place.Given as goal

abbrev pub invariant-loop-pair : goal.invariant-loop-pair
invariant-loop-pair l =
    find (λ pair. is pair.key l.key) l.pairs
    ≡ find (λ pair. is pair.key l.key) (drop l.pair-index l.pair-items)
