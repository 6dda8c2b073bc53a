use Rattle.std.proofs.Common.{◌≡◌, option_map, sym, ap, ◌∙◌}
use Rattle.json.specs.Find.{get_member}
use Rattle.json.specs.Json.{object}
use Rattle.serde_json.specs.Find.{get}
use Rattle.pl_trees.specs.Trees.{data_of}
use Rattle.pl_trees.specs.Views.{members_view, tree_view}
use Rattle.pl_trees.proofs.Lists.{seen_found, view_object}
use Rattle.pl_trees.proofs.Trees.{get_seen}
use Rattle.pl_trees.proofs.members.get.Goals as goal

pub returns-in-Object : goal.returns-in-Object
returns-in-Object c =
    let name = c.args.name.now in
    let members = c.in-Object.members in
    let is : tree_view c.args.object.now ≡ object (members_view members.items) =
    ap tree_view c.in-Object.is ∙ view_object members in
    seen_found c.find.result
    ∙ ap (option_map data_of) (c.find.ensures
    ∙ ap (λ ms. get_member name (members_view ms)) c.as_slice.ensures.value)
    ∙ sym (get_seen name (object (members_view members.items)))
    ∙ sym (ap (λ j. get name (data_of j)) is)
