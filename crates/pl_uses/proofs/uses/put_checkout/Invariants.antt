use Rattle.std.proofs.Common.{◌≡◌, drop}
use Rattle.std.specs.Prelude.{flat_map}
use Rattle.pl_uses.specs.Uses.{checkout_uses, kept, put_all}
use Rattle.pl_uses.proofs.uses.put_checkout.Given as goal

abbrev pub invariant-loop-pair : goal.invariant-loop-pair
invariant-loop-pair l =
    put_all (kept l.uses) (flat_map (checkout_uses l.repositories) (drop l.pair-index l.pairs)) ≡
    put_all (kept l.initial.uses) (flat_map (checkout_uses l.repositories) l.pairs)
