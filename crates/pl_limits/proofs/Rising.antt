-- Items by a total order: where a sorted list of them rises none stands twice in it, and else one
-- does; and so in the list as it was before it was sorted.
use Rattle.std.proofs.Common.{◌≡◌, ℕ, suc, ◌+◌, ◌≤◌, Bool, true, false, cond, not, ◌&&◌, ◌||◌}
use Rattle.std.proofs.Common.{List, [], ◌∷◌, ◌++◌, map, get_or, refl, sym, ap, subst, ◌∙◌}
use Rattle.std.proofs.Common.{append_assoc, append-nil, arith, true≢false}
use Rattle.std.specs.BTreeMap.Comparable.{le_lt_trans}
use Rattle.std.specs.Cmp.{IsTotalOrder}
use Rattle.std.specs.List.{list_any, sum_by}
use Rattle.std.specs.List.Sorted.{IsPermutation, IsSortedBy}
use Rattle.std.specs.Ordering.{eq_by_cmp, is_eq, is_gt, is_le, is_lt, ordering_reverse}
use Rattle.std.specs.declared.cmp.Ordering.{Ordering}
use Rattle.std.specs.declared.cmp.Ordering.TheVariants.{Less, Equal, Greater}
use Rattle.std.proofs.lemmas.Cmp.{tied_itself}
use Rattle.std.proofs.lemmas.List.Sorted.{sum_by-IsPermutation}
use Rattle.std.proofs.lemmas.List.Sums.{sum_by-cons}
use Rattle.pl_limits.specs.Limits.{are_rising, each_behind, is_new, rises}

-- ---- tests

and_first : (a b : Bool) → (a && b) ≡ true → a ≡ true
and_first true b e = refl
and_first false b e = e

and_second : (a b : Bool) → (a && b) ≡ true → b ≡ true
and_second true b e = e
and_second false b e = absurd (true≢false (sym e))

none_of : (b : Bool) → not b ≡ true → b ≡ false
none_of true e = absurd (true≢false (sym e))
none_of false e = refl

one_answer : (a b : Bool) → (a ≡ true → b ≡ false → ⊥) → (a ≡ false → b ≡ true → ⊥) → a ≡ b
one_answer true true p q = refl
one_answer true false p q = absurd (p refl refl)
one_answer false true p q = absurd (q refl refl)
one_answer false false p q = refl

is_less : (r : Ordering) → is_lt r ≡ true → r ≡ Less
is_less Less e = refl
is_less Equal e = absurd (true≢false (sym e))
is_less Greater e = absurd (true≢false (sym e))

at_most : (r : Ordering) → is_gt r ≡ false → is_le r ≡ true
at_most Less e = refl
at_most Equal e = refl
at_most Greater e = absurd (true≢false e)

module _ {K : Type 0} {R : K → K → Ordering} (o : IsTotalOrder R) where
  abbrev same : K → K → Bool
  same = eq_by_cmp R

  -- ---- how often an item stands in a list

  abbrev pub hit : Ordering → ℕ
  hit r = cond (is_eq r) 1 0

  abbrev pub count : K → List K → ℕ
  count x [] = 0
  count x (y ∷ ys) = hit (R x y) + count x ys

  count_is_sum : (x : K) (ys : List K) → sum_by (λ y. hit (R x y)) ys ≡ count x ys
  count_is_sum x [] = refl
  count_is_sum x (y ∷ ys) =
      sum_by-cons (λ z. hit (R x z)) y ys ∙ ap (λ n. hit (R x y) + n) (count_is_sum x ys)

  count_moved : (xs ys : List K) → IsPermutation xs ys → (x : K) → count x ys ≡ count x xs
  count_moved xs ys moved x =
      sym (count_is_sum x ys) ∙ sum_by-IsPermutation (λ y. hit (R x y)) xs ys moved
      ∙ count_is_sum x xs

  pub count_both : (x : K) (xs ys : List K) → count x (xs ++ ys) ≡ count x xs + count x ys
  count_both x [] ys = omega arith
  count_both x (z ∷ zs) ys = omega (arith, count_both x zs ys)

  -- what ties counts as often
  count_tied : (x y : K) → R x y ≡ Equal → (zs : List K) → count x zs ≡ count y zs
  count_tied x y tied [] = refl
  count_tied x y tied (z ∷ zs) =
      ap (λ r. hit r + count x zs) (o.congr x y z tied)
      ∙ ap (λ n. hit (R y z) + n) (count_tied x y tied zs)

  itself : (x : K) → hit (R x x) ≡ 1
  itself x = ap hit (tied_itself o x)

  any_none : (x : K) (ys : List K) → list_any (same x) ys ≡ false → count x ys ≡ 0
  any_none x [] e = refl
  any_none x (y ∷ ys) e = go (R x y) refl (λ more. any_none x ys more)
    where
      rest : (r : Ordering) → R x y ≡ r → (is_eq r || list_any (same x) ys) ≡ false
      rest r is = sym (ap (λ s. is_eq s || list_any (same x) ys) is) ∙ e

      go :
          (r : Ordering) → R x y ≡ r → (list_any (same x) ys ≡ false → count x ys ≡ 0) →
          hit (R x y) + count x ys ≡ 0
      go Less is none =
          let here : hit (R x y) ≡ 0 = ap hit is in omega (arith, here, none (rest Less is))
      go Equal is none = absurd (true≢false (rest Equal is))
      go Greater is none =
          let here : hit (R x y) ≡ 0 = ap hit is in omega (arith, here, none (rest Greater is))

  any_some : (x : K) (ys : List K) → list_any (same x) ys ≡ true → 1 ≤ count x ys
  any_some x [] e = absurd (true≢false (sym e))
  any_some x (y ∷ ys) e = go (R x y) refl (λ more. any_some x ys more)
    where
      rest : (r : Ordering) → R x y ≡ r → (is_eq r || list_any (same x) ys) ≡ true
      rest r is = sym (ap (λ s. is_eq s || list_any (same x) ys) is) ∙ e

      go :
          (r : Ordering) → R x y ≡ r → (list_any (same x) ys ≡ true → 1 ≤ count x ys) →
          1 ≤ hit (R x y) + count x ys
      go Less is some = omega (arith, some (rest Less is))
      go Equal is some = let here : hit (R x y) ≡ 1 = ap hit is in omega (arith, here)
      go Greater is some = omega (arith, some (rest Greater is))

  -- ---- each item against those before it

  one_more :
      (before : List K) (y : K) → ((x : K) → count x before ≤ 1) → count y before ≡ 0 → (x : K) →
      count x (before ++ y ∷ []) ≤ 1
  one_more before y least new x = go (R x y) refl
    where
      whole : count x (before ++ y ∷ []) ≡ count x before + (hit (R x y) + 0)
      whole = count_both x before (y ∷ [])

      go : (r : Ordering) → R x y ≡ r → count x (before ++ y ∷ []) ≤ 1
      go Less is = let here : hit (R x y) ≡ 0 = ap hit is in omega (arith, whole, here, least x)
      go Equal is =
          let here : hit (R x y) ≡ 1 = ap hit is in
          omega (arith, whole, here, count_tied x y is before, new)
      go Greater is = let here : hit (R x y) ≡ 0 = ap hit is in omega (arith, whole, here, least x)

  kept :
      (before xs : List K) → ((x : K) → count x before ≤ 1) →
      each_behind (is_new same) before xs ≡ true → (x : K) → count x (before ++ xs) ≤ 1
  kept before [] least h x =
      subst (λ (ys : List K). count x ys ≤ 1) (sym (append-nil before)) (least x)
  kept before (y ∷ ys) least h x =
      subst (λ (zs : List K). count x zs ≤ 1) (append_assoc before (y ∷ []) ys)
      (kept (before ++ y ∷ []) ys
      (one_more before y least (any_none y before (none_of _ (and_first _ _ h))))
      (and_second (is_new same before y) _ h) x)

  doubled :
      (before xs : List K) → each_behind (is_new same) before xs ≡ false →
      (x : K) × (2 ≤ count x (before ++ xs))
  doubled before [] h = absurd (true≢false h)
  doubled before (y ∷ ys) h =
      go (list_any (same y) before) refl (λ more. doubled (before ++ y ∷ []) ys more)
    where
      go :
          (b : Bool) → list_any (same y) before ≡ b →
          (each_behind (is_new same) (before ++ y ∷ []) ys ≡ false →
          (x : K) × (2 ≤ count x ((before ++ y ∷ []) ++ ys))) →
          (x : K) × (2 ≤ count x (before ++ y ∷ ys))
      go true is later = (
        y,
        omega (arith, count_both y before (y ∷ ys), any_some y before is, itself y),
      )
      go false is later =
          let found = later (sym (ap (λ b. not b && each_behind (is_new same) (before ++ y ∷ []) ys)
          is) ∙ h) in (
            found.0,
            subst (λ (zs : List K). 2 ≤ count found.0 zs) (append_assoc before (y ∷ []) ys)
                found.1,
          )

  -- ---- items that rise

  none_behind :
      (x last : K) (ys : List K) → is_gt (R x last) ≡ false → rises R last ys ≡ true →
      count x ys ≡ 0
  none_behind x last [] upto rising = refl
  none_behind x last (y ∷ ys) upto rising =
      let less : R x y ≡ Less =
      le_lt_trans o x last y (at_most (R x last) upto)
      (is_less (R last y) (and_first _ _ rising)) in
      let here : hit (R x y) ≡ 0 = ap hit less in
      omega (
        arith,
        here,
        none_behind x y ys (ap is_gt less) (and_second (is_lt (R last y)) _ rising),
      )

  once :
      (last : K) (ys : List K) → rises R last ys ≡ true → (x : K) (r : Ordering) → R x last ≡ r →
      count x (last ∷ ys) ≤ 1
  once last [] rising x Less is = let here : hit (R x last) ≡ 0 = ap hit is in omega (arith, here)
  once last [] rising x Equal is = let here : hit (R x last) ≡ 1 = ap hit is in omega (arith, here)
  once last [] rising x Greater is =
      let here : hit (R x last) ≡ 0 = ap hit is in omega (arith, here)
  once last (y ∷ ys) rising x Less is =
      let here : hit (R x last) ≡ 0 = ap hit is in
      omega (arith, here, once y ys (and_second (is_lt (R last y)) _ rising) x (R x y) refl)
  once last (y ∷ ys) rising x Equal is =
      let here : hit (R x last) ≡ 1 = ap hit is in
      omega (arith, here, none_behind x last (y ∷ ys) (ap is_gt is) rising)
  once last (y ∷ ys) rising x Greater is =
      let here : hit (R x last) ≡ 0 = ap hit is in
      omega (arith, here, once y ys (and_second (is_lt (R last y)) _ rising) x (R x y) refl)

  -- where each comes before the next, none stands twice
  pub rising_apart :
      (xs : List K) → are_rising R xs ≡ true → each_behind (is_new same) [] xs ≡ true
  rising_apart [] rising = refl
  rising_apart (x ∷ xs) rising = go (each_behind (is_new same) [] (x ∷ xs)) refl
    where
      go :
          (b : Bool) → each_behind (is_new same) [] (x ∷ xs) ≡ b →
          each_behind (is_new same) [] (x ∷ xs) ≡ true
      go true is = is
      go false is =
          let found = doubled [] (x ∷ xs) is in
          absurd (omega (arith, found.1, once x xs rising found.0 (R found.0 x) refl))

  -- no item is less than the one before it
  abbrev Climbs : K → List K → Type 0
  Climbs last [] = Unit {0}
  Climbs last (y ∷ ys) = (is_lt (R y last) ≡ false) × Climbs y ys

  twice :
      (last : K) (ys : List K) → Climbs last ys → rises R last ys ≡ false →
      (x : K) × (2 ≤ count x (last ∷ ys))
  twice last [] climbs falls = absurd (true≢false falls)
  twice last (y ∷ ys) climbs falls =
      go (R last y) refl (λ more. twice y ys climbs.1 more)
    where
      go :
          (r : Ordering) → R last y ≡ r →
          (rises R y ys ≡ false → (x : K) × (2 ≤ count x (y ∷ ys))) →
          (x : K) × (2 ≤ count x (last ∷ y ∷ ys))
      go Less is later =
          let found = later (sym (ap (λ s. is_lt s && rises R y ys) is) ∙ falls) in
          (found.0, omega (arith, found.1))
      go Equal is later =
          let next : hit (R last y) ≡ 1 = ap hit is in
          (last, omega (arith, itself last, next))
      go Greater is later =
          absurd (true≢false (sym (ap is_lt (o.antisymm y last ∙ ap ordering_reverse is)) ∙
          climbs.0))

  -- ---- the list before it was sorted

  pub told_apart :
      (xs : List K) (last : K) (ys : List K) → IsPermutation xs (last ∷ ys) → Climbs last ys →
      each_behind (is_new same) [] xs ≡ rises R last ys
  told_apart xs last ys moved climbs =
      one_answer (each_behind (is_new same) [] xs) (rises R last ys)
      (λ apart falls. let found = twice last ys climbs falls in
      let most : count found.0 xs ≤ 1 = kept [] xs (λ x. omega arith) apart found.0 in
      omega (arith, found.1, most, count_moved xs (last ∷ ys) moved found.0))
      (λ some rising. let found = doubled [] xs some in
      let most : count found.0 (last ∷ ys) ≤ 1 =
      once last ys rising found.0 (R found.0 last) refl in
      omega (arith, found.1, most, count_moved xs (last ∷ ys) moved found.0))

  -- ---- lists in which the same items stand twice

  pub not_apart :
      (xs : List K) (x : K) → 2 ≤ count x xs → each_behind (is_new same) [] xs ≡ false
  not_apart xs x two = go (each_behind (is_new same) [] xs) refl
    where
      go : (b : Bool) → each_behind (is_new same) [] xs ≡ b → b ≡ false
      go true is =
          let most : count x xs ≤ 1 = kept [] xs (λ y. omega arith) is x in
          absurd (omega (arith, two, most))
      go false is = refl

  pub apart_alike :
      (xs ys : List K) → ((x : K) → 2 ≤ count x xs → 2 ≤ count x ys) →
      ((x : K) → 2 ≤ count x ys → 2 ≤ count x xs) →
      each_behind (is_new same) [] ys ≡ each_behind (is_new same) [] xs
  apart_alike xs ys there back =
      one_answer (each_behind (is_new same) [] ys) (each_behind (is_new same) [] xs)
      (λ apart some. let found = doubled [] xs some in
      let most : count found.0 ys ≤ 1 = kept [] ys (λ x. omega arith) apart found.0 in
      omega (arith, there found.0 found.1, most))
      (λ some apart. let found = doubled [] ys some in
      let most : count found.0 xs ≤ 1 = kept [] xs (λ x. omega arith) apart found.0 in
      omega (arith, back found.0 found.1, most))

  -- ---- what a sort says

  module _ {X : Type 0} (key : X → K) where
    abbrev falls : X → X → Bool
    falls a b = is_lt (R (key a) (key b))

    sorted_tail : (x : X) (xs : List X) → IsSortedBy falls (x ∷ xs) → IsSortedBy falls xs
    sorted_tail x xs sorted = λ k d low high.
        let one : suc k + 1 ≡ suc (k + 1) = omega arith in
        subst (λ (n : ℕ). falls (get_or (x ∷ xs) n d) (get_or xs k d) ≡ false) one
        (sorted (suc k) d (omega arith) (omega arith))

    pub climbs : (x : X) (xs : List X) → IsSortedBy falls (x ∷ xs) → Climbs (key x) (map key xs)
    climbs x [] sorted = tt
    climbs x (y ∷ ys) sorted = (
      sorted 0 x (omega arith) (omega arith),
      climbs y ys (sorted_tail x (y ∷ ys) sorted),
    )
