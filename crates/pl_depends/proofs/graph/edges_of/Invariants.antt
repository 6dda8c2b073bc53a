use Rattle.std.proofs.Common.{◌≡◌, ◌++◌, drop}
use Rattle.pl_graph.specs.Waits.{edges_by}
use Rattle.pl_depends.specs.Graph.{waits_of}
use Rattle.pl_depends.proofs.graph.edges_of.Given as goal

abbrev pub invariant-loop-at : goal.invariant-loop-at
invariant-loop-at l =
    l.edges ++ edges_by l.at (waits_of (drop l.at l.graph)) ≡ edges_by 0 (waits_of l.graph)
