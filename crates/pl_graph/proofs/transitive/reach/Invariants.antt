use Rattle.pl_graph.proofs.Common.{btree_set_len, ◌+◌}
use Rattle.pl_graph.proofs.Searches.{IsReach}
use Rattle.pl_graph.proofs.transitive.reach.Given as goal

abbrev pub invariant-loop-from : goal.invariant-loop-from
invariant-loop-from l = IsReach l.edges l.node l.rest l.found l.todo

abbrev pub decreases-loop-from : goal.decreases-loop-from
decreases-loop-from l = btree_set_len l.rest + btree_set_len l.rest + btree_set_len l.todo
