-- Options and lists whose items are written as what they stand for.
use Rattle.std.proofs.Common.{◌≡◌, ℕ, suc, ◌<◌, ◌^◌, ◌++◌, List, [], ◌∷◌, length, map}
use Rattle.std.proofs.Common.{Option, Some, None, Bool, true, false, not, true≢false, get_or, take}
use Rattle.std.proofs.Common.{refl, sym, ap, subst, ◌+◌, ◌∙◌}
use Rattle.std.proofs.lemmas.List.{take_more}
use Rattle.std.specs.Prelude.{IfSome}
use Rattle.std.specs.List.{flat_map, AllByRecursion}
use Rattle.std.specs.Option.{option_map}
use Rattle.pl_fields.specs.Fields.{count, list, option, IsListOf}

module _ {X Y : Type 0} (f : X → Y) where
  pub option_mapped : (field : Y → List ℕ) (o : Option X) →
      option field (option_map f o) ≡ option (λ x. field (f x)) o
  option_mapped field None = refl
  option_mapped field (Some x) = refl

  pub option_fits : (P : Y → Type 0) (o : Option X) → IfSome o (λ x. P (f x)) →
      IfSome (option_map f o) P
  option_fits P None fits = fits
  option_fits P (Some x) fits = fits

  pub length_mapped : (xs : List X) → length (map f xs) ≡ length xs
  length_mapped [] = refl
  length_mapped (x ∷ xs) = ap (λ n. suc n) (length_mapped xs)

  pub items_mapped : (field : Y → List ℕ) (xs : List X) →
      flat_map field (map f xs) ≡ flat_map (λ x. field (f x)) xs
  items_mapped field [] = refl
  items_mapped field (x ∷ xs) = ap (λ (bytes : List ℕ). field (f x) ++ bytes)
      (items_mapped field xs)

  pub each_mapped : (P : Y → Type 0) (xs : List X) → AllByRecursion (λ x. P (f x)) xs →
      AllByRecursion P (map f xs)
  each_mapped P [] each = each
  each_mapped P (x ∷ xs) each = (each.0, each_mapped P xs each.1)

  pub list_mapped : (field : Y → List ℕ) (xs : List X) →
      list field (map f xs) ≡ list (λ x. field (f x)) xs
  unfolding list
  list_mapped field xs =
      ap (λ (n : ℕ). count n ++ flat_map field (map f xs)) (length_mapped xs) ∙
      ap (λ (bytes : List ℕ). count (length xs) ++ bytes) (items_mapped field xs)

  pub list_fits : (P : Y → Type 0) (xs : List X) → IsListOf (λ x. P (f x)) xs →
      IsListOf P (map f xs)
  list_fits P xs fits = record {
    short = subst (λ n. n < 2 ^ 32) (sym (length_mapped xs)) fits.short;
    each = each_mapped P xs fits.each;
  }

-- one item more of a list has the property too
each_push : {X : Type 0} (P : X → Type 0) (xs : List X) (x : X) → AllByRecursion P xs → P x →
    AllByRecursion P (xs ++ x ∷ [])
each_push P [] x each here = (here, tt)
each_push P (y ∷ ys) x each here = (each.0, each_push P ys x each.1 here)

pub each_next : {X : Type 0} (P : X → Type 0) (xs : List X) (i : ℕ) (x : X) → i < length xs →
    x ≡ get_or xs i x → AllByRecursion P (take i xs) → P x → AllByRecursion P (take (i + 1) xs)
each_next P xs i x within at each here =
    subst (AllByRecursion P) (sym (take_more xs i x within))
    (each_push P (take i xs) (get_or xs i x) each (subst P at here))

pub told_on : (b : Bool) → not b ≡ false → b ≡ true
told_on true e = refl
told_on false e = absurd (true≢false e)
