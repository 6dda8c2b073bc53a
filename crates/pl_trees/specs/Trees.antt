-- The data of a value that was read over its content's own text: what `serde_json` makes of it.
use Rattle.std.specs.Prelude.{ℕ, List, [], ◌∷◌, Bool, true, false, Option, Some, None, ◌&&◌}
use Rattle.std.specs.Prelude.{if◌then◌else◌}
use Rattle.std.specs.Borrow.{Bor}
use Rattle.std.specs.List.{list_any}
use Rattle.std.specs.Option.{is_some}
use Rattle.std.specs.Str.{bytes_eq, is_utf8}
use Rattle.json.specs.Json as json
use Rattle.serde_json.specs.Data.{Num, Data, null, boolean, number, string, array, object, put}
use Rattle.serde_json.specs.Data.{Items, no_items, item, Members, no_members, member}
use Rattle.serde_json.specs.Read.{number_of, read}
use Rattle.pl_trees.specs.Views.{tree_view}
use Rattle.pl_trees.specs.declared.tree.Tree.{Tree}

-- a number out of range has no data
abbrev pub number_or_null : Option Num → Data
number_or_null None = null
number_or_null (Some value) = number value

-- members go in one after another, so that the last value of a name stays
abbrev mutual
  pub data_of : json.Json → Data
  data_of json.null = null
  data_of (json.boolean flag) = boolean flag
  data_of (json.number digits) = number_or_null (number_of digits)
  data_of (json.string text) = string text
  data_of (json.array items) = array (data_of_items items)
  data_of (json.object members) = object (data_of_members members no_members)

  pub data_of_items : json.Items → Items
  data_of_items json.no_items = no_items
  data_of_items (json.item value more) = item (data_of value) (data_of_items more)

  pub data_of_members : json.Members → Members → Members
  data_of_members json.no_members found = found
  data_of_members (json.member name value more) found =
      data_of_members more (put name (data_of value) found)

-- whether each number is in range
abbrev mutual
  pub in_range : json.Json → Bool
  in_range json.null = true
  in_range (json.boolean flag) = true
  in_range (json.number digits) = is_some (number_of digits)
  in_range (json.string text) = true
  in_range (json.array items) = items_in_range items
  in_range (json.object members) = members_in_range members

  pub items_in_range : json.Items → Bool
  items_in_range json.no_items = true
  items_in_range (json.item value more) = in_range value && items_in_range more

  pub members_in_range : json.Members → Bool
  members_in_range json.no_members = true
  members_in_range (json.member name value more) = in_range value && members_in_range more

abbrev pub seen : Tree → Data
seen value = data_of (tree_view value)

-- the value that a content is: it is UTF-8 and JSON
unfoldable pub data_in : List ℕ → Option Data
data_in content = if is_utf8 content then read content else None

-- ---- names of members

abbrev pub is_among : List (List ℕ) → List ℕ → Bool
is_among names sought = list_any (λ name. bytes_eq name sought) names

abbrev pub are_among : List (List ℕ) → Members → Bool
are_among names no_members = true
are_among names (member name value more) = is_among names name && are_among names more

-- an object that has no other members than those of these names
abbrev pub has_only : List (List ℕ) → Data → Bool
has_only names null = false
has_only names (boolean flag) = false
has_only names (number value) = false
has_only names (string text) = false
has_only names (array items) = false
has_only names (object members) = are_among names members

-- whether each member's name is among names
abbrev pub keys_are_among : List (List ℕ) → json.Members → Bool
keys_are_among names json.no_members = true
keys_are_among names (json.member name value more) =
    is_among names name && keys_are_among names more

-- values by their names, as members
abbrev pub entries_seen : List (Bor (List ℕ) × Bor Tree) → Members
entries_seen [] = no_members
entries_seen (entry ∷ more) = member entry.0.now (seen entry.1.now) (entries_seen more)
