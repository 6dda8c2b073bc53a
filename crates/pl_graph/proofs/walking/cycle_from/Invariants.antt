use Rattle.pl_graph.proofs.Common.{Chain, Contains, EachOnce, GoesOn, IsNext, Leads, [], has}
use Rattle.pl_graph.proofs.Common.{length, true, ℕ, ◌++◌, ◌-◌, ◌<◌, ◌↔◌, ◌∷◌, ◌≡◌}
use Rattle.pl_graph.proofs.walking.cycle_from.Given as goal

abbrev pub invariant-loop-nodes : goal.invariant-loop-nodes
invariant-loop-nodes l = record {
  goes : GoesOn l.edges l.node;
  leads : Leads (IsNext l.edges) l.first l.node;
  along : Chain (IsNext l.edges) (l.nodes.items ++ l.node ∷ []);
  below : (x : ℕ) → Contains (l.nodes.items ++ l.node ∷ []) x → x < 4294967296;
  once : EachOnce l.nodes.items;
  seen_is : (x : ℕ) → (has l.seen x ≡ true) ↔ Contains l.nodes.items x;
}

abbrev pub decreases-loop-nodes : goal.decreases-loop-nodes
decreases-loop-nodes l = 4294967296 - length l.nodes.items
