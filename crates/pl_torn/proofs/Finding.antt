-- Finding the row at a place where rows are in order.
use Rattle.std.proofs.Common.{◌≡◌, ℕ, zero, suc, ◌+◌, ◌≤◌, ◌<◌, Bool, true, false, true≢false, cond}
use Rattle.std.proofs.Common.{List, [], ◌∷◌, length, drop, get_or, Option, Some, None, refl, sym}
use Rattle.std.proofs.Common.{ap, ◌∙◌, arith}
use Rattle.std.specs.Cmp.{IsStrictWeakOrder}
use Rattle.std.specs.List.{find, slice_get, AllWithin}
use Rattle.std.specs.List.Sorted.{IsPartitionedBy}
use Rattle.std.specs.Cmp.Lexicographic.{slice_cmp}
use Rattle.std.specs.Option.{option_and_then, option_map_or}
use Rattle.std.specs.Ordering.{is_eq, is_lt, nat_cmp, ordering_reverse, ordering_then}
use Rattle.std.specs.Prelude.{nat_lt, ◌==◌}
use Rattle.std.specs.declared.cmp.Ordering.{Ordering}
use Rattle.std.specs.declared.cmp.Ordering.TheVariants.{Less, Equal, Greater}
use Rattle.std.proofs.lemmas.List.Sorted.{ranks_by, sorted_far}
use Rattle.std.proofs.lemmas.Bool.{ltb-true}
use Rattle.std.proofs.lemmas.Option.{same_Some}
use Rattle.pl_changes.specs.Differing.{stands_at}
use Rattle.pl_changes.proofs.Places.{if_false, if_true, places_total, stands, Place}
use Rattle.pl_keeper.specs.Keeping.{place, place_cmp}
use Rattle.pl_torn.specs.Finding.{if_there, is_before, IsCut}
use Rattle.pl_torn.specs.Seen.{comes_before, seen_at, AreInOrder}
use Rattle.pl_torn.specs.declared.seen.Seen.{Seen}

abbrev key : Seen → Place
key one = place one.row.now

weak : IsStrictWeakOrder comes_before
weak = ranks_by places_total key

places_weak : IsStrictWeakOrder (λ p q. is_lt (place_cmp p q))
places_weak = ranks_by places_total (λ (p : Place). p)

far : (all : List Seen) → AreInOrder all → (i j : ℕ) (d : Seen) → i ≤ j → j < length all →
    comes_before (get_or all j d) (get_or all i d) ≡ false
far all order i j d le lt = sorted_far comes_before weak all order i j d le lt

true_else : (b : Bool) → (b ≡ false → ⊥) → b ≡ true
true_else true denied = refl
true_else false denied = absurd (denied refl)

false_else : (b : Bool) → (b ≡ true → ⊥) → b ≡ false
false_else true denied = absurd (denied refl)
false_else false denied = refl

-- the rows before a place come first
pub before_first : (at : Place) (all : List Seen) → AreInOrder all →
    IsPartitionedBy (is_before at) all
before_first at all order i j d le lt e =
    true_else (is_before at (get_or all i d)) (λ denied.
    true≢false (sym e ∙ places_weak.chain (key (get_or all j d)) (key (get_or all i d)) at
    (far all order i j d le lt) denied))

-- ---- whether so many rows come before a place

at_number : (all : List Seen) (n : ℕ) (d : Seen) → n < length all →
    slice_get all n ≡ Some (get_or all n d)
at_number [] n d lt = absurd (omega arith)
at_number (y ∷ ys) zero d lt = refl
at_number (y ∷ ys) (suc n) d lt = at_number ys n d (omega arith)

-- whether the row of a number comes before it
abbrev pub comes : Place → List Seen → ℕ → Bool
comes at all n = option_map_or (is_before at) (slice_get all n) false

told : (at : Place) (all : List Seen) (n : ℕ) (d : Seen) → n < length all →
    comes at all n ≡ is_before at (get_or all n d)
told at all n d lt =
    ap (λ (o : Option Seen). option_map_or (is_before at) o false) (at_number all n d lt)

back_by : (at : Place) (all : List Seen) → AreInOrder all → (n : ℕ) → comes at all n ≡ false →
    AllWithin (λ one. is_before at one ≡ false) all n (length all)
back_by at all order n denied k d low high =
    false_else (is_before at (get_or all k d)) (λ e.
    true≢false (sym (before_first at all order n k d low high e) ∙
    (sym (told at all n d (omega (arith, low, high))) ∙ denied)))

-- none does
pub cut_none : (at : Place) (all : List Seen) → AreInOrder all → (n : ℕ) → n ≡ 0 →
    comes at all n ≡ false → IsCut at all n
cut_none at all order n zero_is denied = record {
  within = omega (arith, zero_is);
  front = λ k d low high. absurd (omega (arith, zero_is, high));
  back = back_by at all order n denied;
}

-- the last of them does
pub cut_some : (at : Place) (all : List Seen) → AreInOrder all → (n m : ℕ) → n ≡ m + 1 →
    n ≤ length all → comes at all n ≡ false → comes at all m ≡ true → IsCut at all n
cut_some at all order n m more within denied last = record {
  within = within;
  front = λ k d low high.
      let le : k ≤ m = omega (arith, more, high) in
      let lt : m < length all = omega (arith, more, within) in
      before_first at all order k m d le lt (sym (told at all m d lt) ∙ last);
  back = back_by at all order n denied;
}

-- ---- searches

none_some : (x : Seen) → None ≡ Some x → ⊥
none_some x e = absurd cc

-- what is found in front of nothing
module _ (f : Seen → Bool) where
  skipped : (all : List Seen) (n : ℕ) → AllWithin (λ one. f one ≡ false) all 0 n →
      n ≤ length all → find f all ≡ find f (drop n all)
  skipped [] zero front le = refl
  skipped [] (suc n) front le = absurd (omega arith)
  skipped (x ∷ xs) zero front le = refl
  skipped (x ∷ xs) (suc n) front le =
      if_false (f x) (Some x) (find f xs) (front 0 x (omega arith) (omega arith)) ∙
      skipped xs n (λ k d low high. front (suc k) d (omega arith) (omega arith)) (omega arith)

  none_from : (all : List Seen) (n : ℕ) →
      AllWithin (λ one. f one ≡ false) all n (length all) → find f (drop n all) ≡ None
  none_from [] zero back = refl
  none_from [] (suc n) back = refl
  none_from (x ∷ xs) zero back =
      if_false (f x) (Some x) (find f xs) (back 0 x (omega arith) (omega arith)) ∙
      none_from xs zero (λ k d low high. back (suc k) d (omega arith) (omega arith))
  none_from (x ∷ xs) (suc n) back =
      none_from xs n (λ k d low high. back (suc k) d (omega arith) (omega arith))

  first_from : (all : List Seen) (n : ℕ) (x : Seen) → slice_get all n ≡ Some x →
      f x ≡ true → find f (drop n all) ≡ Some x
  first_from [] n x e s = absurd (none_some x e)
  first_from (y ∷ ys) zero x e s =
      let same : y ≡ x = same_Some y x e in
      if_true (f y) (Some y) (find f ys) (ap f same ∙ s) ∙ e
  first_from (y ∷ ys) (suc n) x e s = first_from ys n x e s

there : (all : List Seen) (n : ℕ) (x d : Seen) → slice_get all n ≡ Some x →
    (n < length all) × (get_or all n d ≡ x)
there [] n x d e = absurd (none_some x e)
there (y ∷ ys) zero x d e = (omega arith, same_Some y x e)
there (y ∷ ys) (suc n) x d e =
    let rest = there ys n x d e in
    (omega (arith, rest.0), rest.1)

past_all : (all : List Seen) (n : ℕ) → slice_get all n ≡ None → length all ≤ n
past_all [] n e = omega arith
past_all (y ∷ ys) zero e = absurd (none_some y (sym e))
past_all (y ∷ ys) (suc n) e =
    let rest = past_all ys n e in
    omega (arith, rest)

before_is_off : (o : Ordering) → is_lt o ≡ true → is_eq o ≡ false
before_is_off Less e = refl
before_is_off Equal e = absurd (true≢false (sym e))
before_is_off Greater e = refl

behind_turned : (o : Ordering) → is_lt o ≡ false → is_eq o ≡ false →
    is_lt (ordering_reverse o) ≡ true
behind_turned Less e off = absurd (true≢false e)
behind_turned Equal e off = absurd (true≢false off)
behind_turned Greater e off = refl

module _ (at : Place) (all : List Seen) (order : AreInOrder all) (n : ℕ)
    (cut : IsCut at all n) where
  abbrev is_there : Seen → Bool
  is_there one = stands_at at one.row.now

  front_off : AllWithin (λ one. is_there one ≡ false) all 0 n
  front_off k d low high =
      before_is_off (place_cmp (key (get_or all k d)) at) (cut.front k d low high)

  to_cut : find is_there all ≡ find is_there (drop n all)
  to_cut = skipped is_there all n front_off cut.within

  back_off : (x : Seen) → slice_get all n ≡ Some x → is_there x ≡ false →
      AllWithin (λ one. is_there one ≡ false) all n (length all)
  back_off x e off k d low high = false_else (is_there (get_or all k d)) (λ s.
      let at_n = there all n x d e in
      let same : key (get_or all k d) ≡ at = stands at (get_or all k d).row.now s in
      let not_far : is_lt (place_cmp at (key x)) ≡ false =
      ap (λ (p : Place). is_lt (place_cmp p (key x))) (sym same) ∙
      (ap (λ (y : Seen). is_lt (place_cmp (key (get_or all k d)) (key y))) (sym at_n.1) ∙
      far all order n k d low high) in
      let not_before : is_lt (place_cmp (key x) at) ≡ false =
      ap (λ (y : Seen). is_lt (place_cmp (key y) at)) (sym at_n.1) ∙
      cut.back n d (omega arith) (omega (arith, at_n.0)) in
      let turned : is_lt (place_cmp at (key x)) ≡ true =
      ap is_lt (places_total.antisymm at (key x)) ∙
      behind_turned (place_cmp (key x) at) not_before off in
      true≢false (sym turned ∙ not_far))

  pub found : (x : Seen) → slice_get all n ≡ Some x → is_there x ≡ true →
      seen_at at all ≡ Some x
  found x e s = to_cut ∙ first_from is_there all n x e s

  pub missed : (x : Seen) → slice_get all n ≡ Some x → is_there x ≡ false →
      seen_at at all ≡ None
  missed x e off = to_cut ∙ none_from is_there all n (back_off x e off)

  pub past : slice_get all n ≡ None → seen_at at all ≡ None
  past e = to_cut ∙ none_from is_there all n (λ k d low high.
      absurd (omega (arith, past_all all n e)))

  -- what is looked for is at the cut, or nowhere
  pub cut_found : seen_at at all ≡ option_and_then (if_there at) (slice_get all n)
  cut_found = by (slice_get all n) refl where
    here : (x : Seen) (b : Bool) → slice_get all n ≡ Some x → is_there x ≡ b →
        seen_at at all ≡ if_there at x
    here x true e s = found x e s ∙ sym (if_true (is_there x) (Some x) None s)
    here x false e s = missed x e s ∙ sym (if_false (is_there x) (Some x) None s)

    by : (o : Option Seen) → slice_get all n ≡ o → seen_at at all ≡
        option_and_then (if_there at) o
    by None e = past e
    by (Some x) e = here x (is_there x) e refl

-- ---- the first of all places

none_below : (n : ℕ) → nat_lt n 0 ≡ false
none_below n = false_else (nat_lt n 0) (λ e. absurd (omega (arith, ltb-true n 0 e)))

no_less : (b : Bool) (bytes : List ℕ) →
    is_lt (ordering_then (cond b Equal Greater) (slice_cmp nat_cmp bytes [])) ≡ false
no_less true [] = refl
no_less true (x ∷ xs) = refl
no_less false bytes = refl

is_least : (at : Place) → is_lt (place_cmp at (0, [])) ≡ false
is_least (table, bytes) =
    ap (λ (b : Bool). is_lt (ordering_then (cond b Less (cond (table == 0) Equal Greater))
    (slice_cmp nat_cmp bytes []))) (none_below table) ∙ no_less (table == 0) bytes

-- nothing comes before it
pub cut_first : (all : List Seen) → IsCut (0, []) all 0
cut_first all = record {
  within = omega arith;
  front = λ k d low high. absurd (omega arith);
  back = λ k d low high. is_least (key (get_or all k d));
}
