-- Lists: what they contain, in which no node comes twice, facts that hold of each node in its turn,
-- and chains.
use Rattle.pl_graph.proofs.Common.{Chain, ClosedChain, Contains, Contains-append_left}
use Rattle.pl_graph.proofs.Common.{Contains-push, Contains-push_cases, Decides-eqb, EachOnce}
use Rattle.pl_graph.proofs.Common.{InTurn, IsPermutation, Leads, List, Walk, [], append-nil}
use Rattle.pl_graph.proofs.Common.{append_assoc, arith, drop, eqb, get_or_append_left}
use Rattle.pl_graph.proofs.Common.{get_or_default, inl, inr, length, length-append, list_any, refl}
use Rattle.pl_graph.proofs.Common.{suc, sym, zero, ℕ, ⊎_elim, ◌++◌, ◌+◌, ◌<◌, ◌↔◌, ◌∙◌, ◌∷◌, ◌≡◌}
use Rattle.pl_graph.proofs.Common.{◌≢◌, ◌≤◌, ◌⊎◌}
use Rattle.std.proofs.Math.Seq.{get_or-append_seam}
use Rattle.std.proofs.lemmas.Cmp.{nat_eq_equiv}
use Rattle.std.proofs.lemmas.List.{get_or-drop, length-drop}
use Rattle.std.proofs.lemmas.List.Sorted.{Contains-permutation, IsPermutation-to_front}
use Rattle.std.proofs.lemmas.List.Quantifiers.{all_pairs_push}
use Rattle.std.proofs.lemmas.Map.Keys.{IsDistinct-IsPermutation}
use Rattle.std.proofs.lemmas.Map.Made.{AllPairs-from_IsDistinct, IsDistinct-from_AllPairs}
use Rattle.std.proofs.lemmas.Map.Made.{is_member-Decides}
use Rattle.std.proofs.lemmas.Map.Steps.{le-length_from_below, length-le_from_distinct_below}
use Rattle.std.specs.Bool.{Decides}

-- ---- what a list contains

pub Contains-none : {X : Type 0} (x : X) → Contains [] x → ⊥
Contains-none x (k, below, is) = omega arith

pub Contains-head : {X : Type 0} (x : X) (xs : List X) → Contains (x ∷ xs) x
Contains-head x xs = (0, omega arith, refl)

pub pushed : {X : Type 0} (xs : List X) (y x : X) →
    Contains (xs ++ y ∷ []) x ↔ (Contains xs x ⊎ (y ≡ x))
pushed xs y x = (
  Contains-push_cases xs y x,
  ⊎_elim (Contains-append_left xs (y ∷ []) x) (λ e. rw (← e) (Contains-push xs y)),
)

-- ---- no node twice

pub once_before : (xs ys : List ℕ) (y : ℕ) → EachOnce (xs ++ y ∷ ys) → Contains xs y → ⊥
once_before xs ys y once (k, below, is) =
    once k (length xs) y below (omega (arith, length-append xs (y ∷ ys)))
    (get_or_append_left xs (y ∷ ys) y k below ∙ is ∙ sym (get_or-append_seam xs y ys y))

pub once_push : (xs : List ℕ) (y : ℕ) → EachOnce xs → (Contains xs y → ⊥) → EachOnce (xs ++ y ∷ [])
once_push xs y once absent =
    all_pairs_push (λ x z. x ≢ z) xs y once (λ k d below same.
    absent (k, below, get_or_default xs k y d below ∙ same))

pub once_drop : (n : ℕ) (xs : List ℕ) → EachOnce xs → EachOnce (drop n xs)
once_drop n xs once i j d low high same =
    once (n + i) (n + j) d (omega arith) (omega (arith, length-drop n xs))
    (sym (get_or-drop n xs i d) ∙ same ∙ get_or-drop n xs j d)

pub once_permuted : (xs ys : List ℕ) → IsPermutation xs ys → EachOnce xs → EachOnce ys
once_permuted xs ys same once =
    AllPairs-from_IsDistinct Decides-eqb ys (IsDistinct-IsPermutation eqb nat_eq_equiv.symm xs ys
    same (IsDistinct-from_AllPairs Decides-eqb xs once))

-- nodes below n, each once, are at most n, and exactly so many where they are all of these
module _ (n : ℕ) (nodes : List ℕ) (once : EachOnce nodes) where
  tells : (x : ℕ) → Decides (list_any (eqb x) nodes) (Contains nodes x)
  tells = is_member-Decides Decides-eqb nodes

  pub once_most : ((x : ℕ) → Contains nodes x → x < n) → length nodes ≤ n
  once_most below =
      length-le_from_distinct_below nodes n (IsDistinct-from_AllPairs Decides-eqb nodes once)
      (λ x h. below x ((tells x).0 h))

  pub once_length : ((x : ℕ) → Contains nodes x ↔ (x < n)) → length nodes ≡ n
  once_length members =
      let most = once_most (λ x. (members x).0) in
      let least = le-length_from_below nodes n (λ x h. (tells x).1 ((members x).1 h)) in omega arith

-- ---- in turn

pub turn_push : (P : List ℕ → ℕ → Type 0) (before xs : List ℕ) (y : ℕ) → InTurn P before xs →
    P (before ++ xs) y → InTurn P before (xs ++ y ∷ [])
turn_push P before [] y all here = (rw append-nil at here, tt)
turn_push P before (x ∷ xs) y all here =
    (all.0, turn_push P (before ++ x ∷ []) xs y all.1 (rw append_assoc here))

-- ---- chains and walks

module _ (R : ℕ → ℕ → Type 0) where
  pub push : (xs : List ℕ) (y z : ℕ) → Chain R (xs ++ y ∷ []) → R y z →
      Chain R ((xs ++ y ∷ []) ++ z ∷ [])
  push [] y z chain related = (related, tt)
  push (x ∷ []) y z chain related = (chain.0, (related, tt))
  push (x ∷ w ∷ xs) y z chain related = (chain.0, push (w ∷ xs) y z chain.1 related)

  pub chain_drop : (n : ℕ) (xs : List ℕ) → Chain R xs → Chain R (drop n xs)
  chain_drop zero xs chain = chain
  chain_drop (suc n) [] chain = tt
  chain_drop (suc n) (x ∷ []) chain = chain_drop n [] tt
  chain_drop (suc n) (x ∷ y ∷ xs) chain = chain_drop n (y ∷ xs) chain.1

  -- a closed chain may begin with any of its nodes
  one_on : (x : ℕ) (xs : List ℕ) → ClosedChain R (x ∷ xs) → ClosedChain R (xs ++ x ∷ [])
  one_on x [] closed = closed
  one_on x (y ∷ xs) closed = push (y ∷ xs) x y closed.1 closed.0

  pub turn : (xs ys : List ℕ) → ClosedChain R (xs ++ ys) → ClosedChain R (ys ++ xs)
  turn [] ys closed = rw append-nil closed
  turn (x ∷ xs) ys closed =
      rw append_assoc at (turn xs (ys ++ x ∷ []) (rw append_assoc at (one_on x (xs ++ ys) closed)))

  next : (a x y : ℕ) (xs : List ℕ) → Chain R (a ∷ xs ++ y ∷ []) → Contains (a ∷ xs) x →
      (b : ℕ) × R x b × Contains (xs ++ y ∷ []) b
  next a x y [] chain (zero, below, is) = (y, rw (← is) chain.0, (0, omega arith, refl))
  next a x y [] chain (suc k, below, is) = absurd (omega arith)
  next a x y (b ∷ xs) chain (zero, below, is) = (b, rw (← is) chain.0, (0, omega arith, refl))
  next a x y (b ∷ xs) chain (suc k, below, is) =
      let (c, related, (j, within, at)) = next b x y xs chain.1 (k, omega arith, is) in
      (c, related, (suc j, omega arith, at))

  -- each node of a closed chain is related to one of them
  pub goes_on : (nodes : List ℕ) (x : ℕ) → ClosedChain R nodes → Contains nodes x →
      (b : ℕ) × R x b × Contains nodes b
  goes_on [] x closed had = absurd closed
  goes_on (a ∷ rest) x closed had =
      let (b, related, on) = next a x a rest closed had in
      (b, related, Contains-permutation _ _ b (IsPermutation-to_front rest a) on)

  pub one_more : (a b c : ℕ) → Leads R a b → R b c → (m : ℕ) × Walk R a c m
  one_more a b c leads related =
      ⊎_elim (λ e. (0, rw e related)) (λ (m, walk). (suc m, (b, walk, related))) leads

module _ (R S : ℕ → ℕ → Type 0) (implies : (a b : ℕ) → R a b → S a b) where
  weaker : (xs : List ℕ) → Chain R xs → Chain S xs
  weaker [] chain = tt
  weaker (a ∷ []) chain = tt
  weaker (a ∷ b ∷ xs) chain = (implies a b chain.0, weaker (b ∷ xs) chain.1)

  pub closed_weaker : (nodes : List ℕ) → ClosedChain R nodes → ClosedChain S nodes
  closed_weaker [] closed = closed
  closed_weaker (a ∷ rest) closed = weaker (a ∷ rest ++ a ∷ []) closed

  walk_weaker : (a b m : ℕ) → Walk R a b m → Walk S a b m
  walk_weaker a b zero related = implies a b related
  walk_weaker a b (suc m) (c, walk, related) = (c, walk_weaker a c m walk, implies c b related)

  pub leads_weaker : (a b : ℕ) → Leads R a b → Leads S a b
  leads_weaker a b = ⊎_elim inl (λ (m, walk). inr (m, walk_weaker a b m walk))
