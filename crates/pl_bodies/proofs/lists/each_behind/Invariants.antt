use Rattle.std.proofs.Common.{◌≡◌, [], drop}
use Rattle.pl_bodies.specs.Fields.{behind, each}
use Rattle.pl_bodies.proofs.lists.each_behind.Given as goal
use Rattle.pl_trees.specs.Trees.{data_of_items}
use Rattle.pl_trees.specs.Views.{items_view}

abbrev pub invariant-loop-value : goal.invariant-loop-value
invariant-loop-value g l =
    behind l.fn.front (each g.F.Field.meant (data_of_items (items_view [] l.values))) ≡
    behind l.all
    (each g.F.Field.meant (data_of_items (items_view [] (drop l.value-index l.values))))
