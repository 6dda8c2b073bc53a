-- No spelling of a pair, an option or a list begins another one, where none of their parts does.
use Rattle.std.proofs.Common.{◌≡◌, ℕ, zero, suc, ◌^◌, ◌<◌, List, [], ◌∷◌, ◌++◌, length, Option}
use Rattle.std.proofs.Common.{Some, None, refl, sym, ap, ◌∙◌, append_assoc, arith}
use Rattle.std.specs.Prelude.{IfSome}
use Rattle.std.specs.List.{flat_map, AllByRecursion}
use Rattle.std.proofs.lemmas.List.Concat.{flat_map-cons}
use Rattle.pl_fields.specs.Fields.{count, option, list, IsListOf}
use Rattle.pl_fields.specs.Reading.{IsOneWay}
use Rattle.pl_fields.specs.WaysOfFields.{count_one_way, tail_is}

pub nothing_one_way : IsOneWay (λ (_ : Unit {0}). []) (λ _. Unit {0})
nothing_one_way x y r s a b e = (refl, e)

module _ {A B : Type 0} (a_spelled : A → List ℕ) (a_fits : A → Type 0)
    (a_one_way : IsOneWay a_spelled a_fits)
    (b_spelled : B → List ℕ) (b_fits : B → Type 0) (b_one_way : IsOneWay b_spelled b_fits) where
  pub pair_one_way : IsOneWay (λ (p : A × B). a_spelled p.0 ++ b_spelled p.1)
      (λ p. a_fits p.0 × b_fits p.1)
  pair_one_way p q r s fits fit e =
      let regrouped : a_spelled p.0 ++ (b_spelled p.1 ++ r) ≡ a_spelled q.0 ++
      (b_spelled q.1 ++ s) =
      sym (append_assoc (a_spelled p.0) (b_spelled p.1) r) ∙
      (e ∙ append_assoc (a_spelled q.0) (b_spelled q.1) s) in
      let first = a_one_way p.0 q.0 (b_spelled p.1 ++ r) (b_spelled q.1 ++ s) fits.0 fit.0
      regrouped in
      let second = b_one_way p.1 q.1 r s fits.1 fit.1 first.1 in
      (λ i. (first.0 i, second.0 i), second.1)

module _ {X : Type 0} (spelled : X → List ℕ) (fits : X → Type 0) (one_way : IsOneWay spelled fits)
  where
    pub option_one_way : IsOneWay (option spelled) (λ value. IfSome value fits)
    option_one_way None None r s a b e = (refl, tail_is 0 0 r s e)
    option_one_way None (Some y) r s a b e = absurd cc
    option_one_way (Some x) None r s a b e = absurd cc
    option_one_way (Some x) (Some y) r s a b e =
        let parts = one_way x y r s a b (tail_is 1 1 (spelled x ++ r) (spelled y ++ s) e) in
        (ap Some parts.0, parts.1)

    -- items in the same number
    pub items_one_way : (xs ys : List X) (r s : List ℕ) → length xs ≡ length ys →
        AllByRecursion fits xs → AllByRecursion fits ys
        → flat_map spelled xs ++ r ≡ flat_map spelled ys ++ s → (xs ≡ ys) × (r ≡ s)
    items_one_way [] [] r s len a b e = (refl, e)
    items_one_way [] (y ∷ ys) r s len a b e = absurd (omega arith)
    items_one_way (x ∷ xs) [] r s len a b e = absurd (omega arith)
    items_one_way (x ∷ xs) (y ∷ ys) r s len a b e =
        let regrouped : spelled x ++ (flat_map spelled xs ++ r) ≡ spelled y ++
        (flat_map spelled ys ++ s) =
        sym (append_assoc (spelled x) (flat_map spelled xs) r) ∙
        (e ∙ append_assoc (spelled y) (flat_map spelled ys) s) in
        let first = one_way x y (flat_map spelled xs ++ r) (flat_map spelled ys ++ s) a.0 b.0
        regrouped in
        let others = items_one_way xs ys r s (omega arith) a.1 b.1 first.1 in
        (λ i. first.0 i ∷ others.0 i, others.1)

    pub list_one_way : IsOneWay (list spelled) (IsListOf fits)
    unfolding list
    list_one_way xs ys r s a b e =
        let regrouped : count (length xs) ++ (flat_map spelled xs ++ r) ≡ count (length ys) ++
        (flat_map spelled ys ++ s) =
        sym (append_assoc (count (length xs)) (flat_map spelled xs) r) ∙
        (e ∙ append_assoc (count (length ys)) (flat_map spelled ys) s) in
        let counts = count_one_way (length xs) (length ys) (flat_map spelled xs ++ r)
        (flat_map spelled ys ++ s) a.short b.short regrouped in
        items_one_way xs ys r s counts.0 a.each b.each counts.1
