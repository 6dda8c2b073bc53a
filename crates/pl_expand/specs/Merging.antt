-- The tree of a root file and of the template that it extends (Microsoft Learn, Azure Pipelines,
-- "YAML schema reference", extends).
use Rattle.std.specs.Prelude.{ℕ, Bool, not, ◌&&◌, List, [], ◌∷◌, ◌++◌, map, filter}
use Rattle.std.specs.Prelude.{codes}
use Rattle.std.specs.Prelude.{Option, Some, None, Result, Ok, if◌then◌else◌}
use Rattle.std.specs.List.{filter_map, list_any}
use Rattle.pl_base.specs.declared.place.Place.{Place}
use Rattle.pl_base.specs.declared.value.Value.{Value, out-Value}
use Rattle.pl_base.specs.declared.value.Value as value
use Rattle.pl_base.specs.declared.value.Value.TheOpen.{Value-F}
use Rattle.pl_base.specs.declared.value.Value.TheOpen as layer
use Rattle.pl_base.specs.declared.value.MarkedNode.{MarkedNode}
use Rattle.pl_base.specs.declared.value.MarkedPair.{MarkedPair}
use Rattle.pl_eval.specs.LookUps.{made}
use Rattle.pl_base.specs.Texts.{is}
use Rattle.pl_directives.specs.declared.fault.ExpandFault.{ExpandFault}
use Rattle.pl_directives.specs.declared.fault.ExpandProblem.TheVariants.{WrongKind}
use Rattle.pl_directives.specs.Complaints.{refused}
use Rattle.pl_reading.specs.Steps.{◌>>=◌}
use Rattle.pl_calls.specs.Judging.{unless_at}
use Rattle.pl_recursion.specs.Levels.{variable_item}
use Rattle.pl_extends.specs.declared.extending.Extension.{Extension}
use Rattle.pl_extends.specs.Extending.{item_under}
use Rattle.pl_extends.specs.Forms.{form_place}

abbrev pub has_key : List ℕ → List MarkedPair → Bool
has_key key pairs = list_any (λ pair. is pair.key key) pairs

-- variables as items: an empty scalar has none
abbrev pub variables_from :
    Value-F Value MarkedNode MarkedPair → Place → Result (List MarkedNode) ExpandFault
variables_from (layer.Array items) place = Ok items
variables_from (layer.Object pairs) place = Ok (map variable_item pairs)
variables_from (layer.Str []) place = Ok []
variables_from layer.Null place = Ok []
variables_from other place = refused WrongKind place

abbrev pub variables_in : MarkedNode → Result (List MarkedNode) ExpandFault
variables_in node = variables_from (out-Value node.value) node.origin.source

-- where both files have variables they are one list, the root's first
abbrev pub joined_variables : MarkedNode → MarkedNode → Result (List MarkedNode) ExpandFault
joined_variables first second =
    variables_in first >>= λ items. variables_in second >>= λ more. Ok (items ++ more)

abbrev pub both_variables :
    Option MarkedNode → Option MarkedNode → Result (Option (List MarkedNode)) ExpandFault
both_variables (Some first) (Some second) =
    joined_variables first second >>= λ items. Ok (Some items)
both_variables first second = Ok None

-- that list has the place of the root's, with the origin of the root's value
abbrev pub with_items : Option (List MarkedNode) → MarkedPair → MarkedPair
with_items None pair = pair
with_items (Some items) pair = record {
  key = pair.key;
  key_origin = pair.key_origin;
  item = made pair.item.origin (value.Array items);
}

-- a pool or a lock's behaviour of the template stands in the place of the root's
abbrev pub is_replaced : List MarkedPair → List ℕ → Bool
is_replaced more key =
    list_any (is key) (codes "pool" ∷ codes "lockBehavior" ∷ []) && has_key key more

abbrev pub root_side :
    Option (List MarkedNode) → List MarkedPair → MarkedPair → Option MarkedPair
root_side joined more pair =
    if is_replaced more pair.key then None
    else if is pair.key (codes "variables") then Some (with_items joined pair)
    else Some pair

abbrev pub template_side : List MarkedPair → MarkedPair → Bool
template_side pairs pair =
    not (is pair.key (codes "variables") && has_key (codes "variables") pairs)

abbrev pub joined_pairs :
    List MarkedPair → List MarkedPair → Option (List MarkedNode) → List MarkedPair
joined_pairs pairs more joined =
    filter_map (root_side joined more) pairs ++ filter (template_side pairs) more

abbrev pub shared_variables :
    List MarkedPair → List MarkedPair → Result (Option (List MarkedNode)) ExpandFault
shared_variables pairs more =
    both_variables (item_under (codes "variables") pairs) (item_under (codes "variables") more)

abbrev pub merged_with :
    List MarkedPair → List MarkedPair → Result (List MarkedPair) ExpandFault
merged_with more pairs =
    unless_at {X = Unit {0}} WrongKind (form_place pairs) tt >>= λ none.
    shared_variables pairs more >>= λ joined.
    Ok (joined_pairs pairs more joined)

abbrev pub merged :
    Option Extension → List MarkedPair → Result (List MarkedPair) ExpandFault
merged None pairs = Ok pairs
merged (Some extension) pairs = merged_with extension.pairs pairs
