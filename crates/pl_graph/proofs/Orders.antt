-- The least order, or those that remain where there is none.
use Rattle.pl_graph.proofs.Common.{All, AllGoOn, AreEdges, BTreeSet, Contains}
use Rattle.pl_graph.proofs.Common.{Contains-append_right, Contains-push_cases, DependsOn, EachOnce}
use Rattle.pl_graph.proofs.Common.{GoesOn, Greater, InTurn, IsAfter, IsCanonicalCycle, IsCycle}
use Rattle.pl_graph.proofs.Common.{IsCycleFrom, IsLeastDependency, IsLeastReady, IsLeastTopological}
use Rattle.pl_graph.proofs.Common.{IsNext, IsPlacement, IsTopological, List, Ordering, Remains, []}
use Rattle.pl_graph.proofs.Common.{append-nil, append_assoc, arith, cases_eq, false, false≢true}
use Rattle.pl_graph.proofs.Common.{joins, nat_cmp, nat_tests, ordering_then, refl, slice_index}
use Rattle.pl_graph.proofs.Common.{subst, sym, true, ℕ, ⊎_elim, ◌++◌, ◌<◌, ◌∙◌, ◌∷◌, ◌≡◌, ◌≢◌, ◌≤◌}
use Rattle.pl_graph.proofs.Lists.{Contains-head, Contains-none, closed_weaker, goes_on}
use Rattle.pl_graph.proofs.Lists.{leads_weaker, once_before, once_push}
use Rattle.pl_graph.proofs.Placements.{edge_within}
use Rattle.std.proofs.lemmas.Map.Made.{Contains-tail}
use Rattle.std.specs.Cmp.Lexicographic.{slice_cmp}

-- ---- the least order

not_greater_at : (x y : ℕ) (rest : Ordering) → x ≤ y → (x ≡ y → rest ≢ Greater) →
    ordering_then (nat_cmp x y) rest ≢ Greater
not_greater_at x y rest below same = grind (arith, nat_tests)

module _ (n : ℕ) (edges : List (ℕ × ℕ)) where
  in_order : (before xs : List ℕ) → InTurn (IsLeastReady n edges) before xs →
      InTurn (IsAfter edges) before xs
  in_order before [] least = tt
  in_order before (x ∷ xs) least = (least.0.0.after, in_order (before ++ x ∷ []) xs least.1)

  each_once : (before xs : List ℕ) → EachOnce before → InTurn (IsLeastReady n edges) before xs →
      EachOnce (before ++ xs)
  each_once before [] once least = rw append-nil once
  each_once before (x ∷ xs) once least =
      rw append_assoc at (each_once (before ++ x ∷ []) xs (once_push before x once
      least.0.0.unplaced) least.1)

  module _ (order : List ℕ) (is : IsTopological n edges order) where
    not_greater : (front xs ys : List ℕ) → InTurn (IsLeastReady n edges) front xs →
        order ≡ front ++ ys → InTurn (IsAfter edges) front ys → slice_cmp nat_cmp xs ys ≢ Greater
    not_greater front [] [] least whole after = λ e. cc
    not_greater front [] (y ∷ ys) least whole after = λ e. cc
    not_greater front (x ∷ xs) [] least whole after =
        let here = (is.members x).1 least.0.0.node in
        absurd (least.0.0.unplaced (rw (whole, append-nil) at here))
    not_greater front (x ∷ xs) (y ∷ ys) least whole after =
        let on = Contains-append_right front (y ∷ ys) y (Contains-head y ys) in
        -- behind the same front, what stands next in a topological order is ready there
        not_greater_at x y (slice_cmp nat_cmp xs ys) (least.0.1 y (record {
          node = (is.members y).0 (rw whole on);
          unplaced = once_before front ys y (subst EachOnce whole is.once);
          after = after.0;
        })) (λ same. not_greater (front ++ y ∷ []) xs ys
        (subst (λ (z : ℕ). InTurn (IsLeastReady n edges) (front ++ z ∷ []) xs) same least.1)
        (whole ∙ sym (append_assoc front (y ∷ []) ys)) after.1)

-- ---- what remains

-- where each node comes after its dependencies, none is in a set of which each has one in the set
pub none_in_turn : (edges : List (ℕ × ℕ)) (In : ℕ → Type 0) →
    ((x : ℕ) → In x → (b : ℕ) × DependsOn edges x b × In b) → (before xs : List ℕ) →
    ((b : ℕ) → Contains before b → In b → ⊥) → InTurn (IsAfter edges) before xs →
    (x : ℕ) → Contains xs x → In x → ⊥
none_in_turn edges In keeps before [] none after x had within = Contains-none x had
none_in_turn edges In keeps before (y ∷ xs) none after x had within =
    let not_first : In y → ⊥ =
    λ here. let (b, depends, kept) = keeps y here in none b (after.0 b depends) kept in
    let not_yet : (b : ℕ) → Contains (before ++ y ∷ []) b → In b → ⊥ = λ b on kept.
    ⊎_elim (λ h. none b h kept) (λ e. not_first (rw e kept)) (Contains-push_cases before y b on) in
    ⊎_elim (λ e. not_first (rw e within))
    (λ ne. none_in_turn edges In keeps (before ++ y ∷ []) xs not_yet after.1 x
    (Contains-tail y xs x ne had) within) (cases_eq y x)

module _ {n : ℕ} {edges : List (ℕ × ℕ)} {placed : List ℕ} {missing : BTreeSet (ℕ × ℕ)}
    (are : AreEdges n edges) (p : IsPlacement n edges placed missing) where
  -- what remains isn't placed
  unplaced : (x : ℕ) → Remains n edges x → Contains placed x → ⊥
  unplaced x remains = remains.1 placed (in_order n edges [] placed p.least)

  pub all_go_on : AllGoOn missing
  all_go_on a b h =
      let (depends, out) = p.missed a b h in
      ⊎_elim (λ on. absurd (out on)) (λ goes. goes)
      ((p.each b).1 (edge_within n edges a b are depends).1)

  remaining : (x : ℕ) → Remains n edges x → GoesOn missing x
  remaining x remains =
      ⊎_elim (λ on. absurd (unplaced x remains on)) (λ goes. goes) ((p.each x).1 remains.0)

  keeps : (x : ℕ) → GoesOn missing x → (b : ℕ) × DependsOn edges x b × GoesOn missing b
  keeps x (b, h) = (b, (p.missed x b h).0, all_go_on x b h)

  remains : (x b : ℕ) → joins missing x b ≡ true → Remains n edges x
  remains x b h = (
    (edge_within n edges x b are (p.missed x b h).0).0,
    λ taken after on. none_in_turn edges (GoesOn missing) keeps [] taken
        (λ c had. absurd (Contains-none c had)) after x on (b, h),
  )

  next_is : (a b : ℕ) → IsNext missing a b → IsLeastDependency n edges a b
  next_is a b (had, least) = (
    let (c, more) = all_go_on a b had in ((p.missed a b had).0, remains b c more),
    λ y (depends, rest). ⊎_elim (least y) (λ on. absurd (unplaced y rest on)) (p.kept a y depends),
  )

  -- where none is missed, all are placed
  pub all_placed : ((a b : ℕ) → joins missing a b ≡ false) → IsLeastTopological n edges placed
  all_placed none =
      let all : (x : ℕ) → x < n → Contains placed x = λ x within. ⊎_elim (λ h. h)
      (λ (b, h). absurd (false≢true (sym (none x b) ∙ h))) ((p.each x).1 within) in record {
        topological = record {
          members = λ x. ((p.each x).0, all x);
          once = each_once n edges [] placed (λ i j d low high. absurd (omega arith)) p.least;
          after = in_order n edges [] placed p.least;
        };
        least = λ others order.
            not_greater n edges others order [] placed others p.least refl order.after;
      }

  -- the walk from the first node that misses one leads to the canonical cycle
  pub cycle_is : (a b : ℕ) (cycle : List ℕ) → joins missing a b ≡ true →
      ((x y : ℕ) → joins missing x y ≡ true → a ≤ x) → IsCycleFrom missing a cycle →
      All (λ x. slice_index cycle 0 ≤ x) cycle → IsCanonicalCycle n edges cycle
  cycle_is a b cycle h first c low = record {
    once = c.once;
    closed = closed_weaker (IsNext missing) (IsLeastDependency n edges) next_is cycle c.closed;
    least = low;
    start = a;
    from = (remains a b h, λ x rest. let (y, on) = remaining x rest in first x y on);
    node = c.node;
    leads = leads_weaker (IsNext missing) (IsLeastDependency n edges) next_is a c.node c.leads;
    on = c.on;
  }

-- a graph has not both a topological order and a cycle
pub not_both : (n : ℕ) (edges : List (ℕ × ℕ)) (order cycle : List ℕ) → AreEdges n edges →
    IsTopological n edges order → IsCycle edges cycle → ⊥
not_both n edges order [] are is cycle = cycle.closed
not_both n edges order (x ∷ xs) are is cycle =
    let keeps = λ (y : ℕ). goes_on (DependsOn edges) (x ∷ xs) y cycle.closed in
    let (b, depends, on) = keeps x (Contains-head x xs) in
    none_in_turn edges (Contains (x ∷ xs)) keeps [] order
    (λ b had. absurd (Contains-none b had)) is.after x
    ((is.members x).1 (edge_within n edges x b are depends).0) (Contains-head x xs)
