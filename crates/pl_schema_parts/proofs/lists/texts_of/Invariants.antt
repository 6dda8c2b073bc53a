use Rattle.std.proofs.Common.{◌≡◌, [], drop}
use Rattle.pl_schema_parts.specs.Rows.{in_turn}
use Rattle.pl_schema_parts.specs.Scalars.{text_in}
use Rattle.pl_schema_parts.proofs.lists.texts_of.Given as goal

abbrev pub invariant-loop-item : goal.invariant-loop-item
invariant-loop-item l = in_turn (λ before item. text_in item) [] l.items ≡ in_turn
    (λ before item. text_in item) l.texts (drop l.item-index l.item-items)
