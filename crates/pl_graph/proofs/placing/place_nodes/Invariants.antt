use Rattle.pl_graph.proofs.Common.{btree_set_len, ◌+◌}
use Rattle.pl_graph.proofs.Placements.{IsPlacing}
use Rattle.pl_graph.proofs.placing.place_nodes.Given as goal

abbrev pub invariant-loop-dependent : goal.invariant-loop-dependent
invariant-loop-dependent l =
    IsPlacing l.n l.edges l.placed.items l.last l.dependents l.missing l.candidates

abbrev pub decreases-loop-dependent : goal.decreases-loop-dependent
decreases-loop-dependent l =
    btree_set_len l.dependents + btree_set_len l.dependents + btree_set_len l.candidates
