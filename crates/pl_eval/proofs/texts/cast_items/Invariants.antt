use Rattle.std.proofs.Common.{◌≡◌, map, take}
use Rattle.pl_expr.specs.Conversions.{cast_text}
use Rattle.pl_eval.proofs.texts.cast_items.Given as goal

abbrev pub invariant-loop-item : goal.invariant-loop-item
invariant-loop-item l = l.texts ≡ map (λ item. cast_text item.value) (take l.item-index l.items)
