-- An expression's value as an item, where it is no array.
use Rattle.std.proofs.Common.{◌≡◌, List, Result, refl, ap, sym, subst, ◌∙◌, rules}
use Rattle.pl_base.specs.declared.place.FileKey.{FileKey}
use Rattle.pl_base.specs.declared.value.Value.{Value, out-Value, roll-Value, the_lemmas}
use Rattle.pl_base.specs.declared.value.Value.TheVariants as value
use Rattle.pl_base.specs.declared.value.Value.TheOpen.{Value-F}
use Rattle.pl_base.specs.declared.value.Value.TheOpen as layer
use Rattle.pl_base.specs.declared.value.MarkedNode.{MarkedNode, roll-MarkedNode}
use Rattle.pl_base.specs.declared.value.MarkedPair.{MarkedPair}
use Rattle.pl_directives.specs.declared.fault.ExpandFault.{ExpandFault}
use Rattle.pl_directives.specs.declared.progress.Progress.{Progress}
use Rattle.pl_calls.specs.Gives.{GivesUsed}
use Rattle.pl_recursion.specs.Following.{Scope}
use Rattle.pl_recursion.specs.Putting.{add_item, spread_of, spread}

rolled : (one : Value) → roll-Value (out-Value one) ≡ one
rolled one = search (rules, the_lemmas)

module _ (scope : Scope) (node : MarkedNode) (progress : Progress) (used : List FileKey)
    (other : (items : List MarkedNode) → node.value ≡ value.Array items → ⊥) where
  array_no :
      (items : List MarkedNode) → layer.Array items ≡ out-Value node.value → ⊥
  array_no items is =
      other items
      (sym (rolled node.value) ∙ (ap roll-Value (sym is) ∙ value.rolls-Array items))

  by_layer :
      (opened : Value-F Value MarkedNode MarkedPair) → opened ≡ out-Value node.value →
      spread_of opened scope node progress used ≡ add_item scope node progress used
  by_layer (layer.Array items) is = absurd (array_no items is)
  by_layer layer.Null is = refl
  by_layer (layer.Bool truth) is = refl
  by_layer (layer.Number number) is = refl
  by_layer (layer.Version segments) is = refl
  by_layer (layer.Str text) is = refl
  by_layer (layer.Object pairs) is = refl

  node_rolled : roll-MarkedNode (record { origin = node.origin; value = node.value }) ≡ node
  node_rolled = search (rules, the_lemmas)

  pub spread_alone :
      (result : Result Progress ExpandFault) (end : List FileKey) →
      GivesUsed result end
      (add_item scope (roll-MarkedNode (record { origin = node.origin; value = node.value }))
      progress used) →
      GivesUsed result end (spread scope node progress used)
  spread_alone result end gives =
      subst (λ step. GivesUsed result end step) (sym (by_layer (out-Value node.value) refl))
      (subst (λ item. GivesUsed result end (add_item scope item progress used)) node_rolled gives)
