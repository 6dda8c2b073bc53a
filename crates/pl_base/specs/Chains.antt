-- Lists that share what comes before their last items.
use Rattle.std.specs.Prelude.{List, [], ◌∷◌, ◌++◌}
use Rattle.pl_base.specs.declared.shared_list.Chain.{Chain}
use Rattle.pl_base.specs.declared.shared_list.Chain.TheOpen.{Chain-F, Start, Then}
use Rattle.pl_base.specs.declared.shared_list.Chain.TheFolds.{fold-Chain}

module _ {X : Type 0} where
  -- one item more
  abbrev pub in_order_step : Chain-F X (List X) → List X
  in_order_step Start = []
  in_order_step (Then before last) = before ++ last ∷ []

  -- the items of a chain, the first one in front
  abbrev pub in_order : Chain X → List X
  in_order = fold-Chain X (List X) in_order_step
