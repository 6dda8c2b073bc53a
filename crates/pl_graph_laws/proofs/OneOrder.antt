-- A graph has one least topological order at most.
use Rattle.std.proofs.Common.{◌≡◌, ◌≢◌, ℕ, List, refl, Ordering}
use Rattle.std.specs.Ordering.{nat_cmp, ordering_reverse}
use Rattle.std.specs.Cmp.Lexicographic.{slice_cmp}
use Rattle.std.specs.declared.cmp.Ordering.TheVariants.{Less, Equal, Greater}
use Rattle.std.proofs.lemmas.Cmp.{nat_list_cmp_total}
use Rattle.std.proofs.lemmas.Map.Lookups.{exact_bytes}
use Rattle.pl_graph.specs.Graph.{IsLeastTopological}

tied : (o p : Ordering) → o ≡ ordering_reverse p → o ≢ Greater → p ≢ Greater → o ≡ Equal
tied Less Less e above below = cc
tied Less Equal e above below = e
tied Less Greater e above below = absurd (below refl)
tied Equal p e above below = refl
tied Greater p e above below = absurd (above refl)

pub one_order : (n : ℕ) (edges : List (ℕ × ℕ)) (one other : List ℕ) →
    IsLeastTopological n edges one → IsLeastTopological n edges other → one ≡ other
one_order n edges one other left right =
    exact_bytes one other (tied (slice_cmp nat_cmp one other) (slice_cmp nat_cmp other one)
    (nat_list_cmp_total.antisymm one other) (left.least other right.topological)
    (right.least one left.topological))
