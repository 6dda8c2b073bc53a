use Rattle.std.proofs.Common.{◌≡◌, ◌<◌, [], length, map, sym, ap, subst, ◌∙◌, arith, rules}
use Rattle.json.specs.Json.{array}
use Rattle.json.specs.Tree.{json_tokens, items_tokens, members_tokens}
use Rattle.pl_trees.specs.Trees.{in_range, items_in_range}
use Rattle.pl_trees.specs.Views.{items_view, members_view, tree_view}
use Rattle.pl_trees.proofs.Lists.{item_smaller, member_smaller, rest_smaller, texts_in_range}
use Rattle.pl_trees.proofs.Lists.{view_list}
use Rattle.pl_trees.proofs.range.+range.Goals as goal

pub are_in_range-items_are_in_range-requires : goal.are_in_range-items_are_in_range-requires
are_in_range-items_are_in_range-requires t c =
    let texts = c.in-List.field-0 in
    let rest = c.in-List.rest in
    let is : tree_view c.args.value.now ≡ array (items_view texts.items rest.items) =
    ap tree_view c.in-List.is ∙ view_list texts rest in
    let smaller : length (items_tokens (items_view [] c.as_slice.result.now)) <
    length (json_tokens (tree_view c.args.value.now)) =
    omega (
      arith,
      ap (λ j. length (json_tokens j)) is,
      rest_smaller texts.items (map tree_view rest.items),
      ap (λ xs. length (items_tokens (items_view [] xs))) c.as_slice.ensures.value,
    ) in
    search rules

pub are_in_range-returns-in-List : goal.are_in_range-returns-in-List
are_in_range-returns-in-List t c =
    let texts = c.in-List.field-0 in
    let rest = c.in-List.rest in
    let is : tree_view c.args.value.now ≡ array (items_view texts.items rest.items) =
    ap tree_view c.in-List.is ∙ view_list texts rest in
    c.items_are_in_range.ensures
    ∙ ap (λ xs. items_in_range (items_view [] xs)) c.as_slice.ensures.value
    ∙ sym (texts_in_range texts.items (map tree_view rest.items)) ∙ sym (ap in_range is)

pub items_are_in_range-are_in_range-requires : goal.items_are_in_range-are_in_range-requires
items_are_in_range-are_in_range-requires t c =
    let xs = c.args.items.now in
    let x = c.item-item.result in
    let smaller : length (json_tokens (tree_view x)) < length (items_tokens (items_view [] xs)) =
    subst (λ y. length (json_tokens (tree_view y)) < length (items_tokens (items_view [] xs)))
    (sym c.item-item.is) (item_smaller xs c.loop-item.item-index x (omega arith)) in
    search rules

pub members_are_in_range-are_in_range-requires : goal.members_are_in_range-are_in_range-requires
members_are_in_range-are_in_range-requires t c =
    let xs = c.args.members.now in
    let x = c.member-item.result in
    let smaller : length (json_tokens (tree_view x.1)) < length (members_tokens (members_view xs)) =
    subst (λ y. length (json_tokens (tree_view y.1)) < length (members_tokens (members_view xs)))
    (sym c.member-item.is) (member_smaller xs c.loop-member.member-index x (omega arith)) in
    search rules
