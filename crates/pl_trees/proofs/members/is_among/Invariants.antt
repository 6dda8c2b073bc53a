use Rattle.std.proofs.Common.{◌≡◌, drop, map}
use Rattle.pl_trees.specs.Trees.{is_among}
use Rattle.pl_trees.proofs.members.is_among.Given as goal

abbrev pub invariant-loop-name : goal.invariant-loop-name
invariant-loop-name l =
    is_among (map (λ name. name.now) l.names) l.sought ≡
    is_among (map (λ name. name.now) (drop l.name-index l.names)) l.sought
