-- The value of `json`'s grammar that a tree stands for.
use Rattle.std.specs.Prelude.{ℕ, List, ◌++◌, map}
use Rattle.std.specs.Borrow.{Bor}
use Rattle.json.specs.Json.{Json, null, boolean, number, string, array, object, Items, Members}
use Rattle.json.specs.Value.{items_of, members_of}
use Rattle.pl_trees.specs.declared.tree.Tree.{Tree, fold-Tree}
use Rattle.pl_trees.specs.declared.tree.Tree.TheOpen.{Tree-F}

-- a list's items: the texts at its front, and the others behind them
abbrev pub items_with : List (Bor (List ℕ)) → List Json → List Json
items_with texts rest = map (λ text. string text.now) texts ++ rest

-- one level, with each value inside already seen
abbrev pub view_step : Tree-F Json → Json
view_step Tree-F.Null = null
view_step (Tree-F.Bool flag) = boolean flag
view_step (Tree-F.Number digits) = number digits.now
view_step (Tree-F.Text text) = string text.now
view_step (Tree-F.List texts rest) = array (items_of (items_with texts.items rest.items))
view_step (Tree-F.Object members) = object (members_of members.items)

abbrev pub tree_view : Tree → Json
tree_view = fold-Tree Json view_step

abbrev pub list_view : List (Bor (List ℕ)) → List Tree → List Json
list_view texts rest = items_with texts (map tree_view rest)

abbrev pub items_view : List (Bor (List ℕ)) → List Tree → Items
items_view texts rest = items_of (list_view texts rest)

abbrev pub members_view : List (Bor (List ℕ) × Tree) → Members
members_view members = members_of (map (λ member. (member.0, tree_view member.1)) members)
