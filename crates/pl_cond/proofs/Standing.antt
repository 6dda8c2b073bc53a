-- Where variables stand when one more is put among them.
use Rattle.std.proofs.Common.{◌≡◌, ℕ, suc, ◌+◌, ◌-◌, ◌<◌, ◌≤◌, Bool, true, false, cond, Option}
use Rattle.std.proofs.Common.{Some, None, List, [], ◌∷◌, ◌++◌, length, set, refl, ap, sym, ◌∙◌, inl}
use Rattle.std.proofs.Common.{inr, arith}
use Rattle.std.specs.List.{position_from}
use Rattle.std.specs.Str.{bytes_eq}
use Rattle.std.proofs.lemmas.Bool.{cases_Bool, false≢true}
use Rattle.std.proofs.lemmas.Slice.Eq.{bytes_eq-Decides}
use Rattle.pl_base.specs.Folding.{folded}
use Rattle.pl_eval.specs.Known.{same_name}
use Rattle.pl_cond.specs.declared.variables.Variable.{Variable}
use Rattle.pl_cond.specs.Placing.{has_name, place_of}
use Rattle.pl_cond.specs.Placing.{placed}
use Rattle.pl_cond.proofs.Swapped.{pointwise_swap}

-- the name of a later variable, in upper case
abbrev pub upper_of : Variable → List ℕ
upper_of variable = folded variable.name

same_test : (later first : Variable) → same_name later.name first.name ≡ has_name (upper_of later)
    first
same_test later first = pointwise_swap (folded first.name) (folded later.name)

-- ---- there is none of that name

pub placed_behind : (variables : List Variable) (later : Variable) (at : ℕ) →
    position_from (has_name (upper_of later)) at variables ≡ None →
    placed variables later ≡ variables ++ later ∷ []
placed_behind [] later at e = refl
placed_behind (first ∷ variables) later at e =
    elim (cases_Bool (has_name (upper_of later) first)) [
      | inl here ↦ absurd
          (some_none
          (sym
          (ap (λ b. cond b (Some at) (position_from (has_name (upper_of later)) (at + 1) variables))
          here) ∙ e))
      | inr other ↦
          let rest =
          sym
          (ap
          (λ b. cond b (Some at) (position_from (has_name (upper_of later)) (at + 1) variables))
          other) ∙ e in
          ap (λ b. cond b (later ∷ variables) (first ∷ placed variables later))
          (same_test later first ∙ other)
          ∙ ap (λ more. first ∷ more) (placed_behind variables later (at + 1) rest)
    ]
  where
    some_none : {A : Type 0} {x : A} → Some x ≡ None → ⊥
    some_none e = absurd (cc)

-- ---- there is one

pub within_list : (test : Variable → Bool) (variables : List Variable) (at place : ℕ) →
    position_from test at variables ≡ Some place → (at ≤ place) × (place < at + length variables)
within_list test [] at place e = absurd (cc)
within_list test (first ∷ variables) at place e =
    elim (cases_Bool (test first)) [
      | inl here ↦
          let is : at ≡ place = let f =
          sym (ap (λ b. cond b (Some at) (position_from test (at + 1) variables)) here)
          ∙ e in cc in
          (omega (arith, is), omega (arith, is))
      | inr other ↦
          let rest =
          within_list test variables (at + 1) place
          (sym (ap (λ b. cond b (Some at) (position_from test (at + 1) variables)) other)
          ∙ e) in
          (omega (arith, rest.0), omega (arith, rest.1))
    ]

pub placed_at : (variables : List Variable) (later : Variable) (at place : ℕ) →
    position_from (has_name (upper_of later)) at variables ≡ Some place →
    placed variables later ≡ set variables (place - at) later
placed_at [] later at place e = absurd (cc)
placed_at (first ∷ variables) later at place e =
    elim (cases_Bool (has_name (upper_of later) first)) [
      | inl here ↦
          let is : at ≡ place = let f =
          sym
          (ap
          (λ b. cond b (Some at) (position_from (has_name (upper_of later)) (at + 1) variables))
          here) ∙ e in cc in
          let none : place - at ≡ 0 = omega (arith, is) in
          ap (λ b. cond b (later ∷ variables) (first ∷ placed variables later))
          (same_test later first ∙ here)
          ∙ ap (λ n. set (first ∷ variables) n later) (sym none)
      | inr other ↦
          let rest =
          sym
          (ap
          (λ b. cond b (Some at) (position_from (has_name (upper_of later)) (at + 1) variables))
          other) ∙ e in
          let bound = within_list (has_name (upper_of later)) variables (at + 1) place rest in
          let more : place - at ≡ suc (place - (at + 1)) = omega (arith, bound.0) in
          ap (λ b. cond b (later ∷ variables) (first ∷ placed variables later))
          (same_test later first ∙ other)
          ∙ (ap (λ variables. first ∷ variables) (placed_at variables later (at + 1) place rest)
          ∙ ap (λ n. set (first ∷ variables) n later) (sym more))
    ]

-- ---- the places of all names afterwards

alike : (upper : List ℕ) (later first : Variable) → has_name (upper_of later) first ≡ true →
    has_name upper later ≡ has_name upper first
alike upper later first same =
    ap (λ name. bytes_eq upper name)
    ((bytes_eq-Decides (upper_of later) (folded first.name)).0 same)

pub places_set : (upper : List ℕ) (variables : List Variable) (later : Variable) (at place : ℕ) →
    position_from (has_name (upper_of later)) at variables ≡ Some place →
    position_from (has_name upper) at (set variables (place - at) later) ≡ position_from
    (has_name upper) at variables
places_set upper [] later at place e = absurd (cc)
places_set upper (first ∷ variables) later at place e =
    elim (cases_Bool (has_name (upper_of later) first)) [
      | inl here ↦
          let is : at ≡ place = let f =
          sym
          (ap
          (λ b. cond b (Some at) (position_from (has_name (upper_of later)) (at + 1) variables))
          here) ∙ e in cc in
          let none : place - at ≡ 0 = omega (arith, is) in
          ap (λ n. position_from (has_name upper) at (set (first ∷ variables) n later)) none
          ∙ ap (λ b. cond b (Some at) (position_from (has_name upper) (at + 1) variables))
          (alike upper later first here)
      | inr other ↦
          let rest =
          sym
          (ap
          (λ b. cond b (Some at) (position_from (has_name (upper_of later)) (at + 1) variables))
          other) ∙ e in
          let bound = within_list (has_name (upper_of later)) variables (at + 1) place rest in
          let more : place - at ≡ suc (place - (at + 1)) = omega (arith, bound.0) in
          ap (λ n. position_from (has_name upper) at (set (first ∷ variables) n later)) more
          ∙ ap (λ next. cond (has_name upper first) (Some at) next)
          (places_set upper variables later (at + 1) place rest)
    ]

-- the place of each name once a variable stands behind all
pub places_push : (upper : List ℕ) (variables : List Variable) (later : Variable) (at size : ℕ) →
    size ≡ at + length variables → position_from (has_name (upper_of later)) at variables ≡ None →
    position_from (has_name upper) at (variables ++ later ∷ [])
    ≡ cond (bytes_eq upper (upper_of later)) (Some size)
    (position_from (has_name upper) at variables)
places_push upper [] later at size size_is e =
    ap (λ n. cond (bytes_eq upper (upper_of later)) (Some n) None) (omega (arith, size_is))
places_push upper (first ∷ variables) later at size size_is e =
    elim (cases_Bool (has_name (upper_of later) first)) [
      | inl here ↦ let f =
          sym
          (ap (λ b. cond b (Some at) (position_from (has_name (upper_of later)) (at + 1) variables))
          here) ∙ e in absurd (cc)
      | inr other ↦
          let rest =
          sym
          (ap
          (λ b. cond b (Some at) (position_from (has_name (upper_of later)) (at + 1) variables))
          other) ∙ e in
          ap (λ next. cond (has_name upper first) (Some at) next)
          (places_push upper variables later (at + 1) size (omega (arith, size_is)) rest)
          ∙ apart _ _ _ (has_name upper first) (bytes_eq upper (upper_of later))
          (λ is same. never is same other)
    ]
  where
    never : has_name upper first ≡ true → bytes_eq upper (upper_of later) ≡ true →
        has_name (upper_of later) first ≡ false → ⊥
    never is same other =
        let upper_is : upper ≡ upper_of later = (bytes_eq-Decides upper (upper_of later)).0 same in
        false≢true (sym other ∙ (ap (λ upper. has_name upper first) (sym upper_is) ∙ is))

    apart : (x y z : Option ℕ) (a b : Bool) → (a ≡ true → b ≡ true → ⊥) →
        cond a x (cond b y z) ≡ cond b y (cond a x z)
    apart x y z true true not_both = absurd (not_both refl refl)
    apart x y z true false not_both = refl
    apart x y z false b not_both = refl

-- ---- what the two ways of putting a variable need and give

pub there : (variables : List Variable) (later : Variable) (place : ℕ) →
    place_of (upper_of later) variables ≡ Some place → place < length variables
there variables later place e =
    omega (arith, (within_list (has_name (upper_of later)) variables 0 place e).1)

pub replaced_at : (variables new : List Variable) (later : Variable) (place : ℕ) →
    place_of (upper_of later) variables ≡ Some place → new ≡ set variables place later →
    new ≡ placed variables later
replaced_at variables new later place e new_is =
    let same : place - 0 ≡ place = omega arith in
    new_is ∙ sym (placed_at variables later 0 place e ∙ ap (λ n. set variables n later) same)

pub replaced_places : (upper : List ℕ) (variables new : List Variable) (later : Variable)
    (place : ℕ) → place_of (upper_of later) variables ≡ Some place →
    new ≡ set variables place later → place_of upper variables ≡ place_of upper new
replaced_places upper variables new later place e new_is =
    let same : place - 0 ≡ place = omega arith in
    sym (places_set upper variables later 0 place e)
    ∙ (ap (λ n. place_of upper (set variables n later)) same ∙ ap (place_of upper) (sym new_is))

pub extended_behind : (variables new : List Variable) (later : Variable) →
    place_of (upper_of later) variables ≡ None → new ≡ variables ++ later ∷ [] →
    new ≡ placed variables later
extended_behind variables new later e new_is = new_is ∙ sym (placed_behind variables later 0 e)

pub extended_places : (upper : List ℕ) (variables : List Variable) (later : Variable) (size : ℕ) →
    place_of (upper_of later) variables ≡ None → size ≡ length variables →
    place_of upper (variables ++ later ∷ []) ≡ cond (bytes_eq upper (folded later.name)) (Some size)
    (place_of upper variables)
extended_places upper variables later size e size_is =
    places_push upper variables later 0 size (omega (arith, size_is)) e
