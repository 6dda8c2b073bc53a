use Rattle.std.proofs.Common.{◌≡◌, [], drop}
use Rattle.pl_bodies.specs.Fields.{behind, each}
use Rattle.pl_bodies.proofs.lists.each_text.Given as goal
use Rattle.pl_trees.specs.Trees.{data_of_items}
use Rattle.pl_trees.specs.Views.{items_view}

abbrev pub invariant-loop-text : goal.invariant-loop-text
invariant-loop-text g l =
    each g.F.Field.meant (data_of_items (items_view l.texts [])) ≡
    behind l.all.items
    (each g.F.Field.meant (data_of_items (items_view (drop l.text-index l.texts) [])))
