use Rattle.std.proofs.Common.{◌≡◌, drop}
use Rattle.std.specs.List.{list_any}
use Rattle.pl_expr.specs.Conversions.{equals}
use Rattle.pl_eval.proofs.applied.is_a_property.Given as goal

abbrev pub invariant-loop-pair : goal.invariant-loop-pair
invariant-loop-pair l = list_any (λ pair. equals l.sought pair.item.value) l.pair-items ≡
    list_any (λ pair. equals l.sought pair.item.value) (drop l.pair-index l.pair-items)
