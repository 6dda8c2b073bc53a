use Rattle.std.proofs.Common.{◌≡◌, find, drop}
use Rattle.std.specs.Prelude.{not}
use Rattle.pl_extends.specs.Extending.{may_extend}
use Rattle.pl_extends.proofs.extending.stray.Given as goal

abbrev pub invariant-loop-pair : goal.invariant-loop-pair
invariant-loop-pair l =
    find (λ pair. not (may_extend pair.key)) l.pairs
    ≡ find (λ pair. not (may_extend pair.key)) (drop l.pair-index l.pair-items)
