-- A graph has one canonical cycle at most.
use Rattle.std.proofs.Common.{List, [], arith, inl, inr, refl, subst, suc, sym, zero, ℕ, ⊎_elim}
use Rattle.std.proofs.Common.{◌++◌, ◌∷◌, ◌≡◌, ◌≤◌, ◌⊎◌}
use Rattle.std.specs.List.{Contains}
use Rattle.std.proofs.lemmas.List.Elements.{All-contains, Contains-append_left, Contains-push}
use Rattle.pl_graph.proofs.Lists.{Contains-head, goes_on, one_more}
use Rattle.pl_graph.specs.Graph.{Chain, ClosedChain, EachOnce, IsCanonicalCycle, IsLeast}
use Rattle.pl_graph.specs.Graph.{IsLeastDependency, Leads, Walk}

once_head : (xs : List ℕ) (y : ℕ) → EachOnce (y ∷ xs) → Contains xs y → ⊥
once_head xs y once (k, below, is) = once 0 (suc k) y (omega arith) (omega arith) (sym is)

one_least : (P : ℕ → Type 0) (x y : ℕ) → IsLeast P x → IsLeast P y → x ≡ y
one_least P x y least also =
    let low : x ≤ y = least.1 y also.0 in
    let high : y ≤ x = also.1 x least.0 in
    omega arith

module _ (R : ℕ → ℕ → Type 0) (one : (a b c : ℕ) → R a b → R a c → b ≡ c) where
  -- two chains from a to z, which they come to at their ends alone
  one_chain : (a z : ℕ) (xs ys : List ℕ) → Chain R (a ∷ xs ++ z ∷ []) →
      Chain R (a ∷ ys ++ z ∷ []) → (Contains xs z → ⊥) → (Contains ys z → ⊥) → xs ≡ ys
  one_chain a z [] [] left right none also = refl
  one_chain a z [] (y ∷ ys) left right none also =
      absurd (also (0, omega arith, one a y z right.0 left.0))
  one_chain a z (x ∷ xs) [] left right none also =
      absurd (none (0, omega arith, one a x z left.0 right.0))
  one_chain a z (x ∷ xs) (y ∷ ys) left right none also =
      let same : x ≡ y = one a x y left.0 right.0 in
      let rest = one_chain y z xs ys (subst (λ (b : ℕ). Chain R (b ∷ xs ++ z ∷ [])) same left.1)
      right.1 (λ (k, below, is). none (suc k, omega arith, is))
      (λ (k, below, is). also (suc k, omega arith, is)) in
      cc

  -- ---- a set that the relation doesn't leave

  abbrev Keeps : (ℕ → Type 0) → Type 0
  Keeps In = (a b : ℕ) → In a → R a b → In b

  along : (In : ℕ → Type 0) → Keeps In → (a : ℕ) (xs : List ℕ) → Chain R (a ∷ xs) → In a →
      (x : ℕ) → Contains (a ∷ xs) x → In x
  along In keeps a xs chain here x (zero, below, is) = rw (← is) here
  along In keeps a [] chain here x (suc k, below, is) = absurd (omega arith)
  along In keeps a (b ∷ xs) chain here x (suc k, below, is) =
      along In keeps b xs chain.1 (keeps a b here chain.0) x (k, omega arith, is)

  to_end : (In : ℕ → Type 0) → Keeps In → (a z : ℕ) (xs : List ℕ) →
      Chain R (a ∷ xs ++ z ∷ []) → (x : ℕ) → Contains (a ∷ xs) x → In x → In z
  to_end In keeps a z xs chain x (zero, below, is) here =
      along In keeps a (xs ++ z ∷ []) chain (rw is here) z (Contains-push (a ∷ xs) z)
  to_end In keeps a z [] chain x (suc k, below, is) here = absurd (omega arith)
  to_end In keeps a z (b ∷ xs) chain x (suc k, below, is) here =
      to_end In keeps b z xs chain.1 x (k, omega arith, is) here

  around : (In : ℕ → Type 0) → Keeps In → (cycle : List ℕ) → ClosedChain R cycle → (x : ℕ) →
      Contains cycle x → In x → (y : ℕ) → Contains cycle y → In y
  around In keeps [] closed x had here y on = absurd closed
  around In keeps (a ∷ xs) closed x had here y on =
      along In keeps a (xs ++ a ∷ []) closed (to_end In keeps a a xs closed x had here) y
      (Contains-append_left (a ∷ xs) (a ∷ []) y on)

  stays : (In : ℕ → Type 0) → Keeps In → (a b m : ℕ) → In a → Walk R a b m → In b
  stays In keeps a b zero here related = keeps a b here related
  stays In keeps a b (suc m) here (c, walk, related) =
      keeps c b (stays In keeps a c m here walk) related

  leads_within : (In : ℕ → Type 0) → Keeps In → (a b : ℕ) → In a → Leads R a b → In b
  leads_within In keeps a b here =
      ⊎_elim (λ e. rw e at here) (λ (m, walk). stays In keeps a b m here walk)

  -- ---- of two nodes to which walks lead from one, one leads to the other

  behind : (a x y m : ℕ) → R a y → Walk R a x m → Leads R y x
  behind a x y zero next related = inl (one a y x next related)
  behind a x y (suc m) next (c, walk, related) =
      inr (one_more R y c x (behind a c y m next walk) related)

  forward : (a x y : ℕ) → R a y → Leads R a x → Leads R x y ⊎ Leads R y x
  forward a x y next =
      ⊎_elim (λ e. inl (inr (0, rw e at next))) (λ (m, walk). inr (behind a x y m next walk))

  either : (a x y m : ℕ) → Leads R a x → Walk R a y m → Leads R x y ⊎ Leads R y x
  either a x y zero left next = forward a x y next left
  either a x y (suc m) left (c, walk, next) =
      ⊎_elim (λ leads. inl (inr (one_more R x c y leads next))) (forward c x y next)
      (either a x c m left walk)

  keeps_on : (cycle : List ℕ) → ClosedChain R cycle → Keeps (Contains cycle)
  keeps_on cycle closed a b had related =
      let (c, next, on) = goes_on R cycle a closed had in rw (one a b c related next) on

  leads_both : (a x y : ℕ) (c d : List ℕ) → Leads R a x → Leads R a y → Contains c x →
      Contains d y → ClosedChain R c → ClosedChain R d → (z : ℕ) × Contains c z × Contains d z
  leads_both a x y c d left right on also closed goes =
      ⊎_elim (λ leads. (y, leads_within (Contains c) (keeps_on c closed) x y on leads, also))
      (λ leads. (x, on, leads_within (Contains d) (keeps_on d goes) y x also leads))
      (⊎_elim (λ e. inr (rw e at left)) (λ (m, walk). either a x y m left walk) right)

pub one_cycle : (n : ℕ) (edges : List (ℕ × ℕ)) (one other : List ℕ) →
    IsCanonicalCycle n edges one → IsCanonicalCycle n edges other → one ≡ other
one_cycle n edges [] other left right = absurd left.closed
one_cycle n edges one [] left right = absurd right.closed
one_cycle n edges (x ∷ xs) (y ∷ ys) left right =
    let R = IsLeastDependency n edges in
    let single : (a b c : ℕ) → R a b → R a c → b ≡ c = λ a b c. one_least _ b c in
    let c = x ∷ xs in
    let d = y ∷ ys in
    let begin : right.start ≡ left.start = one_least _ _ _ right.from left.from in
    let (z, on, also) = leads_both R single left.start left.node right.node c d left.leads
    (subst (λ (a : ℕ). Leads R a right.node) begin right.leads) left.on right.on left.closed
    right.closed in
    let x_on : Contains d x = around R single (Contains d) (keeps_on R single d right.closed) c
    left.closed z on also x (Contains-head x xs) in
    let y_on : Contains c y = around R single (Contains c) (keeps_on R single c left.closed) d
    right.closed z also on y (Contains-head y ys) in
    let low = All-contains (λ a. x ≤ a) c y left.least y_on in
    let high = All-contains (λ a. y ≤ a) d x right.least x_on in
    let same : x ≡ y = omega arith in
    let closed : Chain R (y ∷ xs ++ y ∷ []) =
    subst (λ (a : ℕ). Chain R (a ∷ xs ++ a ∷ [])) same left.closed in
    let rest : xs ≡ ys = one_chain R single y y xs ys closed right.closed
    (λ h. once_head xs x left.once (rw same h)) (once_head ys y right.once) in
    cc
