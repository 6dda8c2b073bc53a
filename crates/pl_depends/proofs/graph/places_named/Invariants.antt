use Rattle.std.proofs.Common.{◌≡◌, ◌++◌, drop}
use Rattle.pl_depends.specs.Graph.{places_named}
use Rattle.pl_depends.specs.Places.{under}
use Rattle.pl_depends.proofs.graph.places_named.Given as goal

abbrev pub invariant-loop-depend : goal.invariant-loop-depend
invariant-loop-depend l = l.found ++ places_named (under l.places) (drop l.depend-index l.depends) ≡
    places_named (under l.places) l.depends
