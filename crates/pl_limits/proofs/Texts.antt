-- Texts that are told apart by two orders.
use Rattle.std.proofs.Common.{◌≡◌, ℕ, Bool, true, false, List, [], ◌∷◌, map, length, refl, sym, ap}
use Rattle.std.proofs.Common.{ap₂, ◌∙◌, arith}
use Rattle.std.specs.Cmp.{IsTotalOrder}
use Rattle.std.specs.Cmp.Lexicographic.{nat_list_cmp_total, slice_cmp, texts_ties}
use Rattle.std.specs.Cmp.Lexicographic.{same_text as is_same}
use Rattle.std.specs.List.Sorted.{IsPermutation, IsSortedBy}
use Rattle.std.specs.Ordering.{eq_by_cmp, is_eq, is_lt, nat_cmp, ordering_then}
use Rattle.std.specs.declared.cmp.Ordering.{Ordering}
use Rattle.std.specs.declared.cmp.Ordering.TheVariants.{Less, Equal, Greater}
use Rattle.std.proofs.lemmas.Cmp.{nat_cmp_total, on_total, then_total, tied_itself}
use Rattle.std.proofs.lemmas.List.Sorted.{IsPermutation-map, length_permutation}
use Rattle.pl_limits.specs.Limits.{are_distinct, are_rising, by_bytes, by_length, same_text}
use Rattle.pl_limits.proofs.Rising.{climbs, rising_apart, told_apart}

-- ---- shorter ones first

length_total : IsTotalOrder by_length
length_total = then_total (on_total length nat_cmp_total) nat_list_cmp_total

not_tied : (s r : Ordering) → is_eq r ≡ false → is_eq (ordering_then s r) ≡ false
not_tied Less r e = refl
not_tied Equal r e = e
not_tied Greater r e = refl

length_ties : (x y : List ℕ) → same_text x y ≡ eq_by_cmp by_length x y
length_ties x y = go (slice_cmp nat_cmp x y) refl
  where
    apart : is_eq (slice_cmp nat_cmp x y) ≡ false → same_text x y ≡ eq_by_cmp by_length x y
    apart e = texts_ties x y ∙ e ∙ sym (not_tied (nat_cmp (length x) (length y)) _ e)

    go : (r : Ordering) → slice_cmp nat_cmp x y ≡ r → same_text x y ≡ eq_by_cmp by_length x y
    go Less is = apart (ap is_eq is)
    go Equal is =
        let told : same_text x y ≡ true = texts_ties x y ∙ ap is_eq is in
        let level : nat_cmp (length x) (length y) ≡ Equal =
        ap (λ z. nat_cmp (length x) (length z)) (sym (is_same x y (sym told))) ∙
        tied_itself nat_cmp_total (length x) in
        told ∙ sym (ap₂ (λ s r. is_eq (ordering_then s r)) level is)
    go Greater is = apart (ap is_eq is)

pub rising_by_length :
    (texts : List (List ℕ)) (rise : Bool) → rise ≡ are_rising by_length texts → rise ≡ true →
    true ≡ are_distinct same_text texts
rising_by_length texts rise told is =
    sym ((λ i. are_distinct (λ a b. length_ties a b i) texts) ∙
    rising_apart length_total texts (sym told ∙ is))

-- ---- byte by byte

module _ {X : Type 0} (text : X → List ℕ) where
  none_at_all :
      (xs : List X) → length {A = X} [] ≡ length xs →
      are_distinct same_text (map text xs) ≡ are_rising by_bytes []
  none_at_all [] e = refl
  none_at_all (x ∷ xs) e = absurd (omega (arith, e))

  sorted_apart :
      (xs ys : List X) → IsPermutation xs ys →
      IsSortedBy (λ a b. is_lt (slice_cmp nat_cmp (text a) (text b))) ys →
      are_distinct same_text (map text xs) ≡ are_rising by_bytes (map text ys)
  sorted_apart xs [] moved sorted = none_at_all xs (length_permutation xs [] moved)
  sorted_apart xs (y ∷ ys) moved sorted =
      (λ i. are_distinct (λ a b. texts_ties a b i) (map text xs)) ∙
      told_apart nat_list_cmp_total (map text xs) (text y) (map text ys)
      (IsPermutation-map text xs (y ∷ ys) moved) (climbs nat_list_cmp_total text y ys sorted)

  pub rising_by_bytes :
      (texts : List (List ℕ)) (xs ys : List X) (rise : Bool) → map text xs ≡ texts →
      IsPermutation xs ys →
      IsSortedBy (λ a b. is_lt (slice_cmp nat_cmp (text a) (text b))) ys →
      rise ≡ are_rising by_bytes (map text ys) → rise ≡ are_distinct same_text texts
  rising_by_bytes texts xs ys rise is moved sorted told =
      told ∙ sym (sorted_apart xs ys moved sorted) ∙ ap (are_distinct same_text) is
