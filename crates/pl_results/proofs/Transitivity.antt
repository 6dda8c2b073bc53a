-- The transitive dependencies of a node, as a list and as walks.
use Rattle.std.proofs.Common.{◌≡◌, ℕ, zero, suc, ◌+◌, ◌<◌, ◌≤◌, ◌⊎◌, inl, inr, Bool, true, false}
use Rattle.std.proofs.Common.{cond}
use Rattle.std.proofs.Common.{List, [], ◌∷◌, length, get_or, refl, sym, ap, subst, ◌∙◌, arith}
use Rattle.std.specs.Prelude.{◌==◌, ◌&&◌, ◌||◌, ◌↔◌, filter, slice_index}
use Rattle.std.specs.List.{Contains, list_any, range_with_len}
use Rattle.std.specs.List.Sorted.{IsStrictlyIncreasing}
use Rattle.std.proofs.lemmas.Bool.{cases_lt, cases_Bool, eqb-true, eq-eqb, false≢true}
use Rattle.std.proofs.lemmas.List.Elements.{All-contains}
use Rattle.std.proofs.lemmas.List.Folds.{Any-from_list_any, list_any_at}
use Rattle.pl_graph.specs.Graph.{AreEdges, AreAncestors, DependsOn, DependsTransitively, Walk}
use Rattle.pl_graph.specs.Waits.{edges_by}
use Rattle.pl_results.specs.Transitive.{leads, leads_through, transitive}

-- ---- tests

both : (a b : Bool) → a ≡ true → b ≡ true → (a && b) ≡ true
both true b is other = other
both false b is other = absurd (false≢true is)

of_both : (a b : Bool) → (a && b) ≡ true → (a ≡ true) × (b ≡ true)
of_both true b are = (refl, are)
of_both false b are = absurd (false≢true are)

first_of_two : (a b : Bool) → a ≡ true → (a || b) ≡ true
first_of_two true b is = refl
first_of_two false b is = absurd (false≢true is)

second_of_two : (a b : Bool) → b ≡ true → (a || b) ≡ true
second_of_two true b is = refl
second_of_two false b is = is

of_two : (a b : Bool) → (a || b) ≡ true → (a ≡ true) ⊎ (b ≡ true)
of_two true b is = inl refl
of_two false b is = inr is

-- ---- one edge

leads_by : (a b : ℕ) → ℕ × ℕ → Bool
leads_by a b edge = (edge.0 == a) && (edge.1 == b)

edge_there : (edges : List (ℕ × ℕ)) (a b : ℕ) → leads edges a b ≡ true → DependsOn edges a b
edge_there edges a b is =
    let any = Any-from_list_any (λ edge. (edge.0 == a) && (edge.1 == b)) edges is in
    let edge : ℕ × ℕ = any.1 in
    let tests = of_both (edge.0 == a) (edge.1 == b) any.4 in
    let from : edge.0 ≡ a = eqb-true edge.0 a tests.0 in
    let to : edge.1 ≡ b = eqb-true edge.1 b tests.1 in
    let same : edge ≡ (a, b) = (λ i. (from i, to i)) in
    subst (λ e. Contains edges e) same (any.0, any.2, any.3)

there_edge : (edges : List (ℕ × ℕ)) (a b : ℕ) → DependsOn edges a b → leads edges a b ≡ true
there_edge edges a b place =
    list_any_at (λ edge. (edge.0 == a) && (edge.1 == b)) edges place.0 (a, b) place.1
    (ap (λ edge. (edge.0 == a) && (edge.1 == b)) place.2
    ∙ both (a == a) (b == b) (eq-eqb a a refl) (eq-eqb b b refl))

-- ---- walks

joined : (edges : List (ℕ × ℕ)) (a c b : ℕ) → DependsTransitively edges a c → (n : ℕ) →
    Walk (DependsOn edges) c b n → DependsTransitively edges a b
joined edges a c b first zero walk = (suc first.0, (c, first.1, walk))
joined edges a c b first (suc n) walk =
    let before = joined edges a c walk.0 first n walk.1 in
    (suc before.0, (walk.0, before.1, walk.2))

walks_through : (edges : List (ℕ × ℕ)) (k a b : ℕ) → leads_through edges k a b ≡ true →
    DependsTransitively edges a b
walks_through edges zero a b is = (0, edge_there edges a b is)
walks_through edges (suc k) a b is =
    elim (of_two (leads_through edges k a b)
    (leads_through edges k a k && leads_through edges k k b) is) [
      | inl within ↦ walks_through edges k a b within
      | inr over ↦
          let parts = of_both (leads_through edges k a k) (leads_through edges k k b) over in
          let rest = walks_through edges k k b parts.1 in
          joined edges a k b (walks_through edges k a k parts.0) rest.0 rest.1
    ]

to_next : (edges : List (ℕ × ℕ)) (k a : ℕ) → leads_through edges (suc k) a k ≡ true →
    leads_through edges k a k ≡ true
to_next edges k a is =
    elim (of_two (leads_through edges k a k)
    (leads_through edges k a k && leads_through edges k k k) is) [
      | inl within ↦ within
      | inr over ↦ (of_both (leads_through edges k a k) (leads_through edges k k k) over).0
    ]

from_next : (edges : List (ℕ × ℕ)) (k b : ℕ) → leads_through edges (suc k) k b ≡ true →
    leads_through edges k k b ≡ true
from_next edges k b is =
    elim (of_two (leads_through edges k k b)
    (leads_through edges k k k && leads_through edges k k b) is) [
      | inl within ↦ within
      | inr over ↦ (of_both (leads_through edges k k k) (leads_through edges k k b) over).1
    ]

over_next : (edges : List (ℕ × ℕ)) (k a b : ℕ) → leads_through edges k a k ≡ true →
    leads_through edges k k b ≡ true → leads_through edges (suc k) a b ≡ true
over_next edges k a b to from = second_of_two (leads_through edges k a b)
    (leads_through edges k a k && leads_through edges k k b)
    (both (leads_through edges k a k) (leads_through edges k k b) to from)

-- what leads to a number below k and on from there leads there through such
abbrev Closed : List (ℕ × ℕ) → ℕ → Type 0
Closed edges k = (a c b : ℕ) → c < k → leads_through edges k a c ≡ true →
    leads_through edges k c b ≡ true → leads_through edges k a b ≡ true

closed_by : (edges : List (ℕ × ℕ)) (k a c b : ℕ) → Closed edges k → c < k →
    (leads_through edges k a c ≡ true) ⊎
    ((leads_through edges k a k && leads_through edges k k c) ≡ true) →
    (leads_through edges k c b ≡ true) ⊎
    ((leads_through edges k c k && leads_through edges k k b) ≡ true) →
    leads_through edges (suc k) a b ≡ true
closed_by edges k a c b before less (inl to) (inl from) = first_of_two (leads_through edges k a b)
    (leads_through edges k a k && leads_through edges k k b) (before a c b less to from)
closed_by edges k a c b before less (inl to) (inr from) =
    let parts = of_both (leads_through edges k c k) (leads_through edges k k b) from in
    over_next edges k a b (before a c k less to parts.0) parts.1
closed_by edges k a c b before less (inr to) (inl from) =
    let parts = of_both (leads_through edges k a k) (leads_through edges k k c) to in
    over_next edges k a b parts.0 (before k c b less parts.1 from)
closed_by edges k a c b before less (inr to) (inr from) = over_next edges k a b
    (of_both (leads_through edges k a k) (leads_through edges k k c) to).0
    (of_both (leads_through edges k c k) (leads_through edges k k b) from).1

closed : (edges : List (ℕ × ℕ)) (k : ℕ) → Closed edges k
closed edges zero a c b small to from = absurd (omega (arith, small))
closed edges (suc k) a c b small to from =
    elim (cases_lt c k) [
      | inl less ↦ closed_by edges k a c b (closed edges k) less
          (of_two (leads_through edges k a c)
          (leads_through edges k a k && leads_through edges k k c) to)
          (of_two (leads_through edges k c b)
          (leads_through edges k c k && leads_through edges k k b) from)
      | inr more ↦
          let same : c ≡ k = omega (arith, small, more) in
          over_next edges k a b
          (to_next edges k a (ap (λ n. leads_through edges (suc k) a n) (sym same) ∙ to))
          (from_next edges k b (ap (λ n. leads_through edges (suc k) n b) (sym same) ∙ from))
    ]

edge_through : (edges : List (ℕ × ℕ)) (k a b : ℕ) → leads edges a b ≡ true →
    leads_through edges k a b ≡ true
edge_through edges zero a b is = is
edge_through edges (suc k) a b is = first_of_two (leads_through edges k a b)
    (leads_through edges k a k && leads_through edges k k b) (edge_through edges k a b is)

through_all : (n : ℕ) (edges : List (ℕ × ℕ)) (a b m : ℕ) → AreEdges n edges →
    Walk (DependsOn edges) a b m → leads_through edges n a b ≡ true
through_all n edges a b zero are walk = edge_through edges n a b (there_edge edges a b walk)
through_all n edges a b (suc m) are walk =
    let small = (All-contains (λ edge. (edge.0 < n) × (edge.1 < n)) edges (walk.0, b) are walk.2).0
    in closed edges n a walk.0 b small (through_all n edges a walk.0 m are walk.1)
    (edge_through edges n walk.0 b (there_edge edges walk.0 b walk.2))

-- ---- lists that rise

abbrev Rises : ℕ → List ℕ → Type 0
Rises low [] = Unit {0}
Rises low (x ∷ xs) = (low ≤ x) × Rises (x + 1) xs

here : (x : ℕ) (xs : List ℕ) → Contains (x ∷ xs) x
here x xs = (0, omega arith, refl)

later : (x y : ℕ) (xs : List ℕ) → Contains xs y → Contains (x ∷ xs) y
later x y xs (k, within, is) = (suc k, omega (arith, within), is)

first_or_later : (x y : ℕ) (xs : List ℕ) → Contains (x ∷ xs) y → (x ≡ y) ⊎ Contains xs y
first_or_later x y xs (zero, within, is) = inl is
first_or_later x y xs (suc k, within, is) = inr (k, omega (arith, within), is)

none_in : {P : Type 0} (x : ℕ) → Contains [] x → P
none_in x (k, within, is) = absurd (omega (arith, within))

lower : (low high : ℕ) (xs : List ℕ) → low ≤ high → Rises high xs → Rises low xs
lower low high [] less rises = tt
lower low high (x ∷ xs) less rises = (omega (arith, less, rises.0), rises.1)

above : (low : ℕ) (xs : List ℕ) (y : ℕ) → Rises low xs → Contains xs y → low ≤ y
above low [] y rises inside = none_in y inside
above low (x ∷ xs) y rises inside =
    elim (first_or_later x y xs inside) [
      | inl same ↦ omega (arith, rises.0, same)
      | inr rest ↦
          let more : x + 1 ≤ y = above (x + 1) xs y rises.1 rest in
          omega (arith, rises.0, more)
    ]

rises_from : (low : ℕ) (xs : List ℕ) → (0 < length xs → low ≤ slice_index xs 0) →
    IsStrictlyIncreasing xs → Rises low xs
rises_from low [] bound up = tt
rises_from low (x ∷ xs) bound up = (
  bound (omega arith),
  rises_from (x + 1) xs
      (λ within. let less : x < slice_index xs 0 = up 0 (omega (arith, within)) in
      omega (arith, less))
      (λ k within. let e : suc k + 1 ≡ suc (k + 1) = omega arith in
      subst (λ n. slice_index xs k < slice_index (x ∷ xs) n) e
      (up (suc k) (omega (arith, within)))),
)

rises_up : (low : ℕ) (xs : List ℕ) → Rises low xs → IsStrictlyIncreasing xs
rises_up low [] rises k within = absurd (omega (arith, within))
rises_up low (x ∷ []) rises k within = absurd (omega (arith, within))
rises_up low (x ∷ y ∷ xs) rises zero within = omega (arith, rises.1.0)
rises_up low (x ∷ y ∷ xs) rises (suc k) within =
    let e : suc (k + 1) ≡ suc k + 1 = omega arith in
    subst (λ n. slice_index (y ∷ xs) k < slice_index (x ∷ y ∷ xs) n) e
    (rises_up (x + 1) (y ∷ xs) rises.1 k (omega (arith, within)))

-- two lists that rise are one where they have the same members
same_members : (low bound : ℕ) (xs ys : List ℕ) → Rises low xs → Rises bound ys →
    ((b : ℕ) → Contains xs b → Contains ys b) → ((b : ℕ) → Contains ys b → Contains xs b) →
    xs ≡ ys
same_members low bound [] [] rises rise to from = refl
same_members low bound [] (y ∷ ys) rises rise to from = none_in y (from y (here y ys))
same_members low bound (x ∷ xs) [] rises rise to from = none_in x (to x (here x xs))
same_members low bound (x ∷ xs) (y ∷ ys) rises rise to from =
    let same : x ≡ y = first (first_or_later y x ys (to x (here x xs)))
    (first_or_later x y xs (from y (here y ys))) in
    let rest : xs ≡ ys = same_members (x + 1) (y + 1) xs ys rises.1 rise.1
    (λ b inside. next y ys b (first_or_later y b ys (to b (later x b xs inside)))
    (let more : x + 1 ≤ b = above (x + 1) xs b rises.1 inside in omega (arith, more, same)))
    (λ b inside. next x xs b (first_or_later x b xs (from b (later y b ys inside)))
    (let more : y + 1 ≤ b = above (y + 1) ys b rise.1 inside in omega (arith, more, same))) in
    (λ i. same i ∷ rest i)
  where
    first : (y ≡ x) ⊎ Contains ys x → (x ≡ y) ⊎ Contains xs y → x ≡ y
    first (inl same) other = sym same
    first (inr inside) (inl same) = same
    first (inr inside) (inr other) =
        let less : y + 1 ≤ x = above (y + 1) ys x rise.1 inside in
        let more : x + 1 ≤ y = above (x + 1) xs y rises.1 other in
        absurd (omega (arith, less, more))

    next : (z : ℕ) (zs : List ℕ) (b : ℕ) → (z ≡ b) ⊎ Contains zs b → z < b → Contains zs b
    next z zs b (inl same) less = absurd (omega (arith, same, less))
    next z zs b (inr inside) less = inside

-- ---- the numbers that a test picks

picked_rise : (p : ℕ → Bool) (low count : ℕ) → Rises low (filter p (range_with_len low count))
picked_rise p low zero = tt
picked_rise p low (suc count) = by (p low) (picked_rise p (low + 1) count)
  where
    by : (b : Bool) → Rises (low + 1) (filter p (range_with_len (low + 1) count)) → Rises low
        (cond b (low ∷ filter p (range_with_len (low + 1) count))
        (filter p (range_with_len (low + 1) count)))
    by true rises = (omega arith, rises)
    by false rises = lower low (low + 1) (filter p (range_with_len (low + 1) count)) (omega arith)
        rises

picked_by : (p : ℕ → Bool) (low count b : ℕ) →
    (Contains (filter p (range_with_len (low + 1) count)) b →
    (p b ≡ true) × (b < low + suc count)) → (p low ≡ true) ⊎ (p low ≡ false) →
    Contains (cond (p low) (low ∷ filter p (range_with_len (low + 1) count))
    (filter p (range_with_len (low + 1) count))) b → (p b ≡ true) × (b < low + suc count)
picked_by p low count b rest (inl first) inside =
    elim (first_or_later low b (filter p (range_with_len (low + 1) count))
    (subst (λ t. Contains (cond t (low ∷ filter p (range_with_len (low + 1) count))
    (filter p (range_with_len (low + 1) count))) b) first inside)) [
      | inl same ↦ (ap p (sym same) ∙ first, omega (arith, same))
      | inr other ↦ rest other
    ]
picked_by p low count b rest (inr none) inside = rest (subst (λ t. Contains
    (cond t (low ∷ filter p (range_with_len (low + 1) count))
    (filter p (range_with_len (low + 1) count))) b) none inside)

picked_are : (p : ℕ → Bool) (low count b : ℕ) → Contains (filter p (range_with_len low count)) b →
    (p b ≡ true) × (b < low + count)
picked_are p low zero b inside = none_in b inside
picked_are p low (suc count) b inside = picked_by p low count b
    (λ rest. let is = picked_are p (low + 1) count b rest in (is.0, omega (arith, is.1)))
    (cases_Bool (p low)) inside

are_picked : (p : ℕ → Bool) (low count b : ℕ) → p b ≡ true → low ≤ b → b < low + count →
    Contains (filter p (range_with_len low count)) b
are_picked p low zero b is more less = absurd (omega (arith, more, less))
are_picked p low (suc count) b is more less =
    elim (cases_lt low b) [
      | inl above ↦ behind (p low)
          (are_picked p (low + 1) count b is (omega (arith, above)) (omega (arith, less)))
      | inr below ↦ let same : low ≡ b = omega (arith, below, more) in front same
    ]
  where
    behind : (t : Bool) → Contains (filter p (range_with_len (low + 1) count)) b → Contains
        (cond t (low ∷ filter p (range_with_len (low + 1) count))
        (filter p (range_with_len (low + 1) count))) b
    behind true inside = later low b (filter p (range_with_len (low + 1) count)) inside
    behind false inside = inside

    front : low ≡ b → Contains (cond (p low) (low ∷ filter p (range_with_len (low + 1) count))
        (filter p (range_with_len (low + 1) count))) b
    front same = subst (λ t. Contains (cond t (low ∷ filter p (range_with_len (low + 1) count))
        (filter p (range_with_len (low + 1) count))) b) (sym (ap p same ∙ is))
        (subst (λ n. Contains (low ∷ filter p (range_with_len (low + 1) count)) n) same
        (here low (filter p (range_with_len (low + 1) count))))

-- ---- the law

pub are_ancestors : (waits : List (List ℕ)) (at : ℕ) → AreEdges (length waits) (edges_by 0 waits) →
    AreAncestors (edges_by 0 waits) at (transitive waits at)
unfolding transitive
are_ancestors waits at are =
    let edges = edges_by 0 waits in
    let n = length waits in
    record {
      ascending = rises_up 0 (transitive waits at) (picked_rise (leads_through edges n at) 0 n);
      members = λ b. (
        λ inside. walks_through edges n at b
            (picked_are (leads_through edges n at) 0 n b inside).0,
        λ walk. are_picked (leads_through edges n at) 0 n b
            (through_all n edges at b walk.0 are walk.1) (omega arith)
            (below b walk),
      );
    }
  where
    below : (b : ℕ) → DependsTransitively (edges_by 0 waits) at b → b < 0 + length waits
    below b (zero, walk) =
        let small = All-contains (λ edge. (edge.0 < length waits) × (edge.1 < length waits))
        (edges_by 0 waits) (at, b) are walk in omega (arith, small.1)
    below b (suc m, walk) =
        let small = All-contains (λ edge. (edge.0 < length waits) × (edge.1 < length waits))
        (edges_by 0 waits) (walk.0, b) are walk.2 in omega (arith, small.1)

pub ancestors_are : (waits : List (List ℕ)) (at : ℕ) (nodes : List ℕ) →
    AreEdges (length waits) (edges_by 0 waits) → AreAncestors (edges_by 0 waits) at nodes →
    nodes ≡ transitive waits at
ancestors_are waits at nodes are found =
    let law = are_ancestors waits at are in
    same_members 0 0 nodes (transitive waits at)
    (rises_from 0 nodes (λ within. omega arith) found.ascending)
    (rises_from 0 (transitive waits at) (λ within. omega arith) law.ascending)
    (λ b inside. (law.members b).1 ((found.members b).0 inside))
    (λ b inside. (found.members b).1 ((law.members b).0 inside))
