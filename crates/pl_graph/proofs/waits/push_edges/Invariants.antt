use Rattle.std.proofs.Common.{◌≡◌, ◌++◌, take}
use Rattle.pl_graph.specs.Waits.{edges_of_one}
use Rattle.pl_graph.proofs.waits.push_edges.Given as goal

abbrev pub invariant-loop-other : goal.invariant-loop-other
invariant-loop-other l =
    l.edges ≡ l.initial.edges ++ edges_of_one l.at (take l.other-index l.depends)
