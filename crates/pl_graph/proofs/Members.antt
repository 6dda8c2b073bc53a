-- Sets of nodes and of edges: what they have, before and after a change.
use Rattle.pl_graph.proofs.Common.{BTreeSet, Bool, DependsOn, IsFromIterResult, List, Ordering}
use Rattle.pl_graph.proofs.Common.{Updates, ap, arith, btree_set_len, contains, edge_cmp}
use Rattle.pl_graph.proofs.Common.{exact_pairs, exact_unsigned, false, get_or-map, joins, keys}
use Rattle.pl_graph.proofs.Common.{length, length-map, nat_cmp, nat_tests, refl, sym, true}
use Rattle.pl_graph.proofs.Common.{turned_of, ℕ, ◌<◌, ◌↔◌, ◌∙◌, ◌≡◌, ◌≤◌, ◌⊎◌}
use Rattle.std.proofs.lemmas.Cmp.{nat_cmp_total, on_total, then_total}
use Rattle.std.proofs.lemmas.Map.Views.{btree_set_contains_from_list}
use Rattle.std.specs.BTreeMap.Range.{IsLeBy}
use Rattle.std.proofs.lemmas.List.{nil_from_length}
use Rattle.std.specs.Cmp.{tied_then}

-- an empty set has nothing
pub none_in : {K : Type 0} (cmp : K → K → Ordering) (set : BTreeSet K) (k : K) →
    btree_set_len set ≡ 0 → contains cmp set k ≡ false
none_in cmp set k empty = rw (nil_from_length (keys set) empty) refl

-- what a set of edges has after one was put in or taken out
pub changed : (old new : BTreeSet (ℕ × ℕ)) (k l : ℕ) (here : Bool) (a b : ℕ) →
    Updates edge_cmp old new (k, l) here →
    ((k ≡ a) × (l ≡ b) × (joins new a b ≡ here)) ⊎
    (((k ≡ a) × (l ≡ b) → ⊥) × (joins new a b ≡ joins old a b))
changed old new k l here a b is =
    let after = is.0 (a, b) in let at = tied_then (nat_cmp k a) (nat_cmp l b) in
    grind (arith, nat_tests)

pub edge_le : (x y : ℕ × ℕ) → IsLeBy edge_cmp x y ↔
    ((x.0 < y.0) ⊎ ((x.0 ≡ y.0) × (x.1 ≤ y.1)))
edge_le x y = grind (arith, nat_tests)

pub are_in : (edges : List (ℕ × ℕ)) (set : BTreeSet (ℕ × ℕ)) → IsFromIterResult edge_cmp edges set →
    (a b : ℕ) → (joins set a b ≡ true) ↔ DependsOn edges a b
are_in edges set made a b =
    btree_set_contains_from_list (then_total (on_total (λ e. e.0) nat_cmp_total)
    (on_total (λ e. e.1) nat_cmp_total)) (exact_pairs nat_cmp nat_cmp exact_unsigned exact_unsigned)
    edges set made (a, b)

pub turned_is : (edges : List (ℕ × ℕ)) (a b : ℕ) →
    DependsOn (turned_of edges) b a ↔ DependsOn edges a b
turned_is edges a b =
    let flip : ℕ × ℕ → ℕ × ℕ = λ edge. (edge.1, edge.0) in (
      λ (k, below, is). let within : k < length edges = rw length-map at below in
          (k, within, ap flip (sym (get_or-map flip edges k (a, b) (b, a) within) ∙ is)),
      λ (k, below, is).
          (k, rw length-map below, get_or-map flip edges k (a, b) (b, a) below ∙ ap flip is),
    )
