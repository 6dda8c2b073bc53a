-- The walk to the least next node each time, and the cycle to which it comes.
use Rattle.pl_graph.proofs.Common.{All, BTreeSet, Chain, DependsOn, EachOnce, IsCanonicalCycle}
use Rattle.pl_graph.proofs.Common.{IsCycle, IsCycleFrom, IsLeastDependency, IsNext, IsPermutation}
use Rattle.pl_graph.proofs.Common.{Leads, List, [], ap, arith, drop, drop-append-le, drop_more}
use Rattle.pl_graph.proofs.Common.{get_or, length, take, take-append-drop, ℕ, ◌++◌, ◌+◌, ◌<◌, ◌∙◌}
use Rattle.pl_graph.proofs.Common.{◌∷◌, ◌≡◌, ◌≤◌}
use Rattle.pl_graph.proofs.Lists.{Contains-head, chain_drop, closed_weaker, once_drop}
use Rattle.pl_graph.proofs.Lists.{once_permuted, turn}
use Rattle.std.proofs.lemmas.List.Sorted.{All-permutation, Contains-permutation}
use Rattle.std.proofs.lemmas.List.Sorted.{IsPermutation-append_comm}

-- the walk is cut where its last node stood before
pub cut_at : (edges : BTreeSet (ℕ × ℕ)) (first node start : ℕ) (nodes : List ℕ) →
    Leads (IsNext edges) first node → Chain (IsNext edges) (nodes ++ node ∷ []) → EachOnce nodes →
    start < length nodes → get_or nodes start 0 ≡ node → IsCycleFrom edges first (drop start nodes)
cut_at edges first node start nodes leads along once within is =
    let after = drop (start + 1) nodes in
    let split : drop start nodes ≡ node ∷ after =
    drop_more nodes start 0 within ∙ ap (λ x. x ∷ after) is in
    let low : start ≤ length nodes = omega arith in
    rw split (record {
      once = rw split at (once_drop start nodes once);
      closed = rw (drop-append-le, split) at (chain_drop (IsNext edges) start _ along);
      node = node;
      leads = leads;
      on = Contains-head node after;
    })

-- a cycle that is turned is one
turned : (nodes : List ℕ) (place : ℕ) → IsPermutation nodes (drop place nodes ++ take place nodes)
turned nodes place =
    rw take-append-drop at (IsPermutation-append_comm (take place nodes) (drop place nodes))

pub turned_cycle : {edges : BTreeSet (ℕ × ℕ)} {first : ℕ} (nodes : List ℕ) (place : ℕ) →
    IsCycleFrom edges first nodes → IsCycleFrom edges first (drop place nodes ++ take place nodes)
turned_cycle {edges = edges} nodes place c = record {
  once = once_permuted nodes _ (turned nodes place) c.once;
  closed =
      turn (IsNext edges) (take place nodes) (drop place nodes) (rw take-append-drop c.closed);
  node = c.node;
  leads = c.leads;
  on = Contains-permutation nodes _ c.node (turned nodes place) c.on;
}

pub turned_least : (nodes : List ℕ) (place least : ℕ) → place < length nodes →
    get_or nodes place 0 ≡ least → All (λ x. least ≤ x) nodes →
    All (λ x. get_or (drop place nodes ++ take place nodes) 0 0 ≤ x)
    (drop place nodes ++ take place nodes)
turned_least nodes place least within is low =
    let first : get_or (drop place nodes ++ take place nodes) 0 0 ≡ least =
    ap (λ z. get_or (z ++ take place nodes) 0 0) (drop_more nodes place 0 within) ∙ is in
    rw first (All-permutation (λ x. least ≤ x) nodes _ (turned nodes place) low)

-- a cycle along least dependencies is one along dependencies
pub canonical_is_cycle : (n : ℕ) (edges : List (ℕ × ℕ)) (cycle : List ℕ) →
    IsCanonicalCycle n edges cycle → IsCycle edges cycle
canonical_is_cycle n edges cycle c = record {
  once = c.once;
  closed =
      closed_weaker (IsLeastDependency n edges) (DependsOn edges) (λ a b least. least.0.0) cycle
      c.closed;
}
