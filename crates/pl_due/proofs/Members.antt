-- Members of lists.
use Rattle.std.proofs.Common.{◌≡◌, ◌⊎◌, zero, suc, List, [], ◌∷◌, ◌++◌, get_or}
use Rattle.std.proofs.Common.{refl, subst, arith, inl, inr}
use Rattle.std.specs.List.{All, AllPairs, Any, Contains}
use Rattle.std.proofs.lemmas.List.{get_or_default}
use Rattle.std.proofs.lemmas.List.Elements.{All-append}
use Rattle.std.proofs.lemmas.List.Kept.{AllPairs-cons}

module _ {X : Type 0} where
  pub cons_cases : (x y : X) (xs : List X) → Contains (y ∷ xs) x → (y ≡ x) ⊎ Contains xs x
  cons_cases x y xs (zero, below, is) = inl is
  cons_cases x y xs (suc k, below, is) = inr (k, omega arith, is)

  pub here : (x : X) (xs : List X) → Contains (x ∷ xs) x
  here x xs = (0, omega arith, refl)

  pub there : (x y : X) (xs : List X) → Contains xs x → Contains (y ∷ xs) x
  there x y xs (k, below, is) = (suc k, omega arith, is)

  -- what holds of all holds of each
  pub of_member : (P : X → Type 0) (xs : List X) (x : X) → All P xs → Contains xs x → P x
  of_member P xs x all (k, below, is) = subst P is (all k x below)

  pub any_of : (P : X → Type 0) (xs : List X) (x : X) → Contains xs x → P x → Any P xs
  any_of P xs x (k, below, is) holds = (k, x, below, is, holds)

  pub any_there : (P : X → Type 0) (y : X) (xs : List X) → Any P xs → Any P (y ∷ xs)
  any_there P y xs (k, x, below, is, holds) = (suc k, x, omega arith, is, holds)

  -- what holds of each member holds of all
  pub all_from : (P : X → Type 0) (xs : List X) → ((x : X) → Contains xs x → P x) → All P xs
  all_from P xs each = λ k d below. each (get_or xs k d)
      (k, below, get_or_default xs k (get_or xs k d) d below)

  pub head_before : (R : X → X → Type 0) (x y : X) (xs : List X) → AllPairs R (x ∷ xs) →
      Contains xs y → R x y
  head_before R x y xs pairs (k, below, is) =
      subst (R x) is (pairs 0 (suc k) y (omega arith) (omega arith))

  pub tail_pairs : (R : X → X → Type 0) (x : X) (xs : List X) → AllPairs R (x ∷ xs) →
      AllPairs R xs
  tail_pairs R x xs pairs = λ i j d less within.
      pairs (suc i) (suc j) d (omega arith) (omega arith)

  pub pairs_append : (R : X → X → Type 0) (xs ys : List X) → AllPairs R xs → AllPairs R ys →
      ((x y : X) → Contains xs x → Contains ys y → R x y) → AllPairs R (xs ++ ys)
  pairs_append R [] ys left right across = right
  pairs_append R (x ∷ xs) ys left right across =
      AllPairs-cons R x (xs ++ ys)
      (All-append (R x) xs ys (all_from (R x) xs (λ y among. head_before R x y xs left among))
      (all_from (R x) ys (λ y among. across x y (here x xs) among)))
      (pairs_append R xs ys (tail_pairs R x xs left) right
      (λ a b in_xs in_ys. across a b (there a x xs in_xs) in_ys))

-- of two lists with the same members the same holds of some member
pub same_any : {X : Type 0} (P Q : X → Type 0) (xs ys : List X) →
    ((x : X) → Contains xs x → Contains ys x) → ((x : X) → P x → Q x) → Any P xs → Any Q ys
same_any P Q xs ys moves holds (k, x, below, is, h) =
    any_of Q ys x (moves x (k, below, is)) (holds x h)
