-- What an expression gave, once it stands in its place (Microsoft Learn, Azure Pipelines,
-- "Templates"): the calls in it are followed, and nothing else in it is evaluated again.
use Rattle.std.specs.Prelude.{ℕ, List, [], ◌∷◌, ◌++◌, map}
use Rattle.std.specs.Prelude.{Option, Some, None, Result, Ok}
use Rattle.pl_base.specs.declared.origin.Origin.{Origin}
use Rattle.pl_base.specs.declared.place.FileKey.{FileKey}
use Rattle.pl_base.specs.declared.value.Value as value
use Rattle.pl_base.specs.declared.value.Value.{Value, fold-Value}
use Rattle.pl_base.specs.declared.value.Value.TheOpen.{Value-F, MarkedNode-F, MarkedPair-F, Null}
use Rattle.pl_base.specs.declared.value.Value.TheOpen.{Bool as Truth, Number, Version, Str, Array}
use Rattle.pl_base.specs.declared.value.Value.TheOpen.{Object}
use Rattle.pl_base.specs.declared.value.MarkedNode.{MarkedNode, fold-MarkedNode}
use Rattle.pl_base.specs.declared.value.MarkedPair.{MarkedPair, fold-MarkedPair}
use Rattle.pl_directives.specs.declared.fault.ExpandFault.{ExpandFault}
use Rattle.pl_directives.specs.declared.progress.Counted.{Counted}
use Rattle.pl_directives.specs.declared.region.Form.{Form}
use Rattle.pl_directives.specs.Regions.{under, inside, call_form}
use Rattle.pl_calls.specs.Meant.{◌>>>◌}
use Rattle.pl_recursion.specs.Following.{Scope, in_region}
use Rattle.pl_recursion.specs.declared.followed.Followed.{Followed}
use Rattle.pl_recursion.specs.declared.followed.SettledValue.{SettledValue}
use Rattle.pl_recursion.specs.declared.followed.SettledPairs.{SettledPairs}

-- ---- A part of a tree as what it stands in sees it: itself, and what it is once it is settled in
-- a scope, from a count on.

abbrev pub Settling : Type 0 → Type 0
Settling X = Scope → ℕ → List FileKey → Result (X × List FileKey) ExpandFault

pub record ValueSeen : Type 0 where
  pub itself : Value
  pub settled : Settling SettledValue

pub record NodeSeen : Type 0 where
  pub itself : MarkedNode
  pub settled : Settling Counted

pub record PairSeen : Type 0 where
  pub itself : MarkedPair
  pub settled : Settling Counted

-- ---- items: a call gives what it gives in its place, any other item is settled

abbrev pub items_with : Followed → Followed → Followed
items_with before more =
    record { items = before.items ++ more.items; count = more.count }

abbrev pub items_and : Followed → Counted → Followed
items_and before one =
    record { items = before.items ++ one.node ∷ []; count = one.count }

abbrev pub item_settled :
    Option Form → NodeSeen → Scope → Followed → List FileKey →
    Result (Followed × List FileKey) ExpandFault
item_settled None node scope before used =
    node.settled (in_region (inside scope.region) scope) before.count used >>> λ one used.
    Ok (items_and before one, used)
item_settled (Some form) node scope before used =
    scope.follow scope.frame form node.itself before.count used >>> λ more used.
    Ok (items_with before more, used)

abbrev pub item_behind :
    NodeSeen → Scope → Followed → List FileKey → Result (Followed × List FileKey) ExpandFault
item_behind node scope before used =
    item_settled (call_form scope.region node.itself) node scope before used

abbrev pub items_behind :
    List NodeSeen → Scope → Followed → List FileKey →
    Result (Followed × List FileKey) ExpandFault
items_behind [] scope before used = Ok (before, used)
items_behind (node ∷ nodes) scope before used =
    item_behind node scope before used >>> items_behind nodes scope

-- ---- pairs: the key tells the region

-- a pair with another value
abbrev pub with_item : MarkedPair → MarkedNode → MarkedPair
with_item pair item = record { key = pair.key; key_origin = pair.key_origin; item = item }

abbrev pub pairs_and : SettledPairs → MarkedPair → Counted → SettledPairs
pairs_and before pair one = record {
  pairs = before.pairs ++ with_item pair one.node ∷ [];
  count = one.count;
}

abbrev pub pair_behind :
    PairSeen → Scope → SettledPairs → List FileKey →
    Result (SettledPairs × List FileKey) ExpandFault
pair_behind pair scope before used =
    pair.settled (in_region (under pair.itself.key scope.region) scope) before.count used >>>
    λ one used. Ok (pairs_and before pair.itself one, used)

abbrev pub pairs_behind :
    List PairSeen → Scope → SettledPairs → List FileKey →
    Result (SettledPairs × List FileKey) ExpandFault
pairs_behind [] scope before used = Ok (before, used)
pairs_behind (pair ∷ pairs) scope before used =
    pair_behind pair scope before used >>> pairs_behind pairs scope

-- ---- values

abbrev pub atom_settled : Value → Settling SettledValue
atom_settled atom scope count used =
    Ok (record { value = atom; count = count }, used)

abbrev pub array_settled : List NodeSeen → Settling SettledValue
array_settled items scope count used =
    items_behind items scope (record { items = []; count = count }) used >>>
    λ all used. Ok (record { value = value.Array all.items; count = all.count }, used)

abbrev pub object_settled : List PairSeen → Settling SettledValue
object_settled pairs scope count used =
    pairs_behind pairs scope (record { pairs = []; count = count }) used >>>
    λ all used. Ok (record { value = value.Object all.pairs; count = all.count }, used)

abbrev pub atom_seen : Value → ValueSeen
atom_seen atom = record { itself = atom; settled = atom_settled atom }

abbrev pub value_step : Value-F ValueSeen NodeSeen PairSeen → ValueSeen
value_step Null = atom_seen value.Null
value_step (Truth truth) = atom_seen (value.Bool truth)
value_step (Number number) = atom_seen (value.Number number)
value_step (Version segments) = atom_seen (value.Version segments)
value_step (Str text) = atom_seen (value.Str text)
value_step (Array items) = record {
  itself = value.Array (map (λ (node : NodeSeen). node.itself) items);
  settled = array_settled items;
}
value_step (Object pairs) = record {
  itself = value.Object (map (λ (pair : PairSeen). pair.itself) pairs);
  settled = object_settled pairs;
}

abbrev pub node_settled : Origin → ValueSeen → Settling Counted
node_settled origin seen scope count used =
    seen.settled scope count used >>> λ one used.
    Ok (record { node = record { origin = origin; value = one.value }; count = one.count }, used)

abbrev pub node_step : MarkedNode-F ValueSeen NodeSeen PairSeen → NodeSeen
node_step node = record {
  itself = record { origin = node.origin; value = node.value.itself };
  settled = node_settled node.origin node.value;
}

abbrev pub pair_step : MarkedPair-F ValueSeen NodeSeen PairSeen → PairSeen
pair_step pair = record {
  itself = record { key = pair.key; key_origin = pair.key_origin; item = pair.item.itself };
  settled = pair.item.settled;
}

abbrev pub node_seen : MarkedNode → NodeSeen
node_seen = fold-MarkedNode ValueSeen NodeSeen PairSeen value_step node_step pair_step

abbrev pub value_seen : Value → ValueSeen
value_seen = fold-Value ValueSeen NodeSeen PairSeen value_step node_step pair_step

abbrev pub pair_seen : MarkedPair → PairSeen
pair_seen = fold-MarkedPair ValueSeen NodeSeen PairSeen value_step node_step pair_step

-- a node that an expression gave for a value in a region
abbrev pub node_settling : MarkedNode → Settling Counted
node_settling node = (node_seen node).settled
