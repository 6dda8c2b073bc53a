use Rattle.pl_graph.proofs.Common.{has, true, ℕ, ◌<◌, ◌↔◌, ◌≡◌}
use Rattle.pl_graph.proofs.placing.all_nodes.Given as goal

abbrev pub invariant-loop-node : goal.invariant-loop-node
invariant-loop-node l = (x : ℕ) → (has l.nodes x ≡ true) ↔ (x < l.node)
