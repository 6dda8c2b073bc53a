use Rattle.std.proofs.Common.{◌≡◌}
use Rattle.pl_trees.specs.Trees.{entries_seen}
use Rattle.pl_bodies.specs.Fields.{behind, each_named}
use Rattle.pl_bodies.proofs.named.each_named.Given as goal

abbrev pub invariant-loop-name : goal.invariant-loop-name
invariant-loop-name g l =
    each_named g.N.Named.makes (entries_seen l.fn.members.entries) ≡
    behind l.all (each_named g.N.Named.makes (entries_seen l.name-iterator))
