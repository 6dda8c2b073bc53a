use Rattle.std.proofs.Common.{◌≡◌, drop}
use Rattle.std.specs.List.{list_any}
use Rattle.pl_expr.specs.Conversions.{equals}
use Rattle.pl_eval.proofs.applied.is_an_item.Given as goal

abbrev pub invariant-loop-item : goal.invariant-loop-item
invariant-loop-item l = list_any (λ item. equals l.sought item.value) l.item-items ≡
    list_any (λ item. equals l.sought item.value) (drop l.item-index l.item-items)
