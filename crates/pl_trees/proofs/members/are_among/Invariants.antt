use Rattle.std.proofs.Common.{◌≡◌, drop, map}
use Rattle.pl_trees.specs.Trees.{keys_are_among}
use Rattle.pl_trees.specs.Views.{members_view}
use Rattle.pl_trees.proofs.members.are_among.Given as goal

abbrev pub invariant-loop-member : goal.invariant-loop-member
invariant-loop-member l =
    keys_are_among (map (λ name. name.now) l.names) (members_view l.members) ≡
    keys_are_among (map (λ name. name.now) l.names) (members_view (drop l.member-index l.members))
