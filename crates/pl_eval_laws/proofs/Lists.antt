-- What holds of each item of a list.
use Rattle.std.proofs.Common.{ℕ, zero, suc, Bool, true, false, cond, Option, Some, None}
use Rattle.std.proofs.Common.{List, [], ◌∷◌, ◌++◌, map, refl, arith}
use Rattle.std.specs.Prelude.{Contains, find, slice_get}
use Rattle.std.specs.List.{AllByRecursion as Each, filter_map, cons_option}
use Rattle.std.specs.Option.{option_map, option_and_then}

-- what holds of an item, where there is one
abbrev pub Has : {X : Type 0} → (X → Type 0) → Option X → Type 0
Has P None = Unit {0}
Has P (Some x) = P x

pub has_map :
    {X Y : Type 0} (P : X → Type 0) (Q : Y → Type 0) (f : X → Y) → ((x : X) → P x → Q (f x)) →
    (found : Option X) → Has P found → Has Q (option_map f found)
has_map P Q f keeps None has = tt
has_map P Q f keeps (Some x) has = keeps x has

pub has_next :
    {X Y : Type 0} (P : X → Type 0) (Q : Y → Type 0) (f : X → Option Y) →
    ((x : X) → P x → Has Q (f x)) → (found : Option X) → Has P found →
    Has Q (option_and_then f found)
has_next P Q f keeps None has = tt
has_next P Q f keeps (Some x) has = keeps x has

module _ {X : Type 0} (P : X → Type 0) where
  pub each_append : (xs ys : List X) → Each P xs → Each P ys → Each P (xs ++ ys)
  each_append [] ys front back = back
  each_append (x ∷ xs) ys front back = (front.0, each_append xs ys front.1 back)

  pub each_one : (x : X) → P x → Each P (x ∷ [])
  each_one x holds = (holds, tt)

  pub each_front : (xs ys : List X) → Each P (xs ++ ys) → Each P xs
  each_front [] ys all = tt
  each_front (x ∷ xs) ys all = (all.0, each_front xs ys all.1)

  pub each_back : (xs ys : List X) → Each P (xs ++ ys) → Each P ys
  each_back [] ys all = all
  each_back (x ∷ xs) ys all = each_back xs ys all.1

  pub each_of : ((x : X) → P x) → (xs : List X) → Each P xs
  each_of holds [] = tt
  each_of holds (x ∷ xs) = (holds x, each_of holds xs)

  pub each_found : (test : X → Bool) (xs : List X) → Each P xs → Has P (find test xs)
  each_found test [] all = tt
  each_found test (x ∷ xs) all = by (test x) (each_found test xs all.1)
    where
      by : (b : Bool) → Has P (find test xs) → Has P (cond b (Some x) (find test xs))
      by true later = all.0
      by false later = later

  pub each_at : (xs : List X) (at : ℕ) → Each P xs → Has P (slice_get xs at)
  each_at [] at all = tt
  each_at (x ∷ xs) zero all = all.0
  each_at (x ∷ xs) (suc at) all = each_at xs at all.1

pub each_implies :
    {X : Type 0} (P Q : X → Type 0) → ((x : X) → P x → Q x) → (xs : List X) → Each P xs → Each Q xs
each_implies P Q implies [] all = tt
each_implies P Q implies (x ∷ xs) all = (implies x all.0, each_implies P Q implies xs all.1)

pub each_map :
    {X Y : Type 0} (P : X → Type 0) (Q : Y → Type 0) (f : X → Y) → ((x : X) → P x → Q (f x)) →
    (xs : List X) → Each P xs → Each Q (map f xs)
each_map P Q f keeps [] all = tt
each_map P Q f keeps (x ∷ xs) all = (keeps x all.0, each_map P Q f keeps xs all.1)

pub each_filter_map :
    {X Y : Type 0} (P : X → Type 0) (Q : Y → Type 0) (f : X → Option Y) →
    ((x : X) → P x → Has Q (f x)) → (xs : List X) → Each P xs → Each Q (filter_map f xs)
each_filter_map P Q f keeps [] all = tt
each_filter_map P Q f keeps (x ∷ xs) all =
    by (f x) (keeps x all.0) (each_filter_map P Q f keeps xs all.1)
  where
    by : (made : Option _) → Has Q made → Each Q (filter_map f xs) →
        Each Q (cons_option made (filter_map f xs))
    by None has rest = rest
    by (Some y) has rest = (has, rest)

-- ---- each item stands in its list

contains_behind :
    {X : Type 0} (first : X) (xs : List X) (x : X) → Contains xs x → Contains (first ∷ xs) x
contains_behind first xs x (at, within, is) = (suc at, omega (arith, within), is)

pub each_contained : {X : Type 0} (xs : List X) → Each (Contains xs) xs
each_contained [] = tt
each_contained (x ∷ xs) =
    let here : Contains (x ∷ xs) x = (0, omega arith, refl) in (
      here,
      each_implies (Contains xs) (Contains (x ∷ xs)) (contains_behind x xs) xs
          (each_contained xs),
    )
