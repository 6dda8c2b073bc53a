-- Where jobs stand in an order, no legs wait for one another in a cycle.
use Rattle.std.proofs.Common.{◌≡◌, ℕ, ◌<◌, List, [], ◌∷◌, refl, subst, arith}
use Rattle.std.specs.List.{All, Contains}
use Rattle.std.proofs.lemmas.List.Elements.{All-contains}
use Rattle.pl_graph.proofs.Lists.{Contains-head, goes_on}
use Rattle.pl_graph.proofs.Orders.{none_in_turn}
use Rattle.pl_graph.specs.Graph.{AreEdges, DependsOn, IsCycle, IsTopological}
use Rattle.pl_plan.proofs.LegEdges.{IsJobEdge}

-- a job of which a leg is on the cycle
abbrev IsOn : (ℕ → ℕ) → List ℕ → ℕ → Type 0
IsOn job_of nodes job = (leg : ℕ) × Contains nodes leg × (job_of leg ≡ job)

keeps_on : (edges legs : List (ℕ × ℕ)) (job_of : ℕ → ℕ) (nodes : List ℕ)
    → All (IsJobEdge edges job_of) legs → IsCycle legs nodes → (job : ℕ) → IsOn job_of nodes job
    → (b : ℕ) × DependsOn edges job b × IsOn job_of nodes b
keeps_on edges legs job_of nodes are cycle job (leg, on, is) =
    let (next, waits, also) = goes_on (DependsOn legs) nodes leg cycle.closed on in
    let depends = All-contains (IsJobEdge edges job_of) legs (leg, next) are waits in
    (job_of next, subst (λ (x : ℕ). DependsOn edges x (job_of next)) is depends, (next, also, refl))

pub no_cycle : (n : ℕ) (edges legs : List (ℕ × ℕ)) (job_of : ℕ → ℕ) (order nodes : List ℕ)
    → AreEdges n edges → IsTopological n edges order → All (IsJobEdge edges job_of) legs
    → IsCycle legs nodes → ⊥
no_cycle n edges legs job_of order [] are topological all cycle = cycle.closed
no_cycle n edges legs job_of order (leg ∷ rest) are topological all cycle =
    let keeps = keeps_on edges legs job_of (leg ∷ rest) all cycle in
    let on : IsOn job_of (leg ∷ rest) (job_of leg) = (leg, Contains-head leg rest, refl) in
    let (b, depends, also) = keeps (job_of leg) on in
    let small = (All-contains (λ edge. (edge.0 < n) × (edge.1 < n)) edges (job_of leg, b) are
    depends).0 in
    none_in_turn edges (IsOn job_of (leg ∷ rest)) keeps [] order
    (λ b (k, below, is). absurd (omega arith)) topological.after (job_of leg)
    ((topological.members (job_of leg)).1 small) on
