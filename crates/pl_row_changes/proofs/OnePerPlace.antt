-- Changes of which no two are of one place: they are as many as their places.
use Rattle.std.proofs.Common.{◌≡◌, ℕ, suc, Bool, true, false, not, ◌||◌, cond, true≢false}
use Rattle.std.proofs.Common.{List, [], ◌∷◌, length, refl, sym, ap, ◌∙◌}
use Rattle.std.specs.List.{filter, list_any}
use Rattle.std.specs.Ordering.{is_eq}
use Rattle.pl_base.specs.declared.row.Change.{Change}
use Rattle.pl_keeper.specs.Keeping.{place_cmp}
use Rattle.pl_changes.specs.Differing.{is_change_at, AreOnePerPlace}
use Rattle.pl_changes.proofs.Leading.{is_false, turned}
use Rattle.pl_changes.proofs.Places.{if_false, if_true, itself, same_place, Place}

abbrev pub of_place : Change → Place
of_place change = (change.table, change.key)

abbrev pub any_at : Place → List Change → Bool
any_at at changes = list_any (is_change_at at) changes

-- without those of a place
abbrev pub without : Place → List Change → List Change
without at changes = filter (λ one. not (is_change_at at one)) changes

-- the same places
abbrev pub AreSame : List Change → List Change → Type 0
AreSame left right = (at : Place) → any_at at left ≡ any_at at right

-- ---- by cases of whether a change is of a place

at_itself : (change : Change) → is_change_at (of_place change) change ≡ true
at_itself change = itself (of_place change)

at_one : (at : Place) (change : Change) → is_change_at at change ≡ true → of_place change ≡ at
at_one at change e = same_place (of_place change) at e

one_place : (change : Change) (at : Place) → of_place change ≡ at → (changes : List Change) →
    any_at (of_place change) changes ≡ any_at at changes
one_place change at e changes = ap (λ (p : Place). any_at p changes) e

none_kept : (at : Place) (changes : List Change) → any_at at changes ≡ false →
    without at changes ≡ changes
none_kept at [] e = refl
none_kept at (change ∷ changes) e =
    let parts = is_false (is_change_at at change) (any_at at changes) e in
    if_true (not (is_change_at at change)) (change ∷ without at changes) (without at changes)
    (ap not parts.0) ∙
    ap (λ (rest : List Change). change ∷ rest) (none_kept at changes parts.1)

-- ---- without those of a place there are none of it, and at other places those that there were

pub none_there : (at : Place) (changes : List Change) → any_at at (without at changes) ≡ false
none_there at [] = refl
none_there at (change ∷ changes) =
    by (is_change_at at change) refl (none_there at changes) where
      by : (b : Bool) → is_change_at at change ≡ b → any_at at (without at changes) ≡ false →
          any_at at (cond (not b) (change ∷ without at changes) (without at changes)) ≡ false
      by true e rest = rest
      by false e rest = ap (λ (c : Bool). c || any_at at (without at changes)) e ∙ rest

pub others_there : (at other : Place) (changes : List Change) →
    is_eq (place_cmp at other) ≡ false → any_at other (without at changes) ≡ any_at other changes
others_there at other [] off = refl
others_there at other (change ∷ changes) off =
    by (is_change_at at change) refl (others_there at other changes off) where
      by : (b : Bool) → is_change_at at change ≡ b →
          any_at other (without at changes) ≡ any_at other changes →
          any_at other (cond (not b) (change ∷ without at changes) (without at changes)) ≡
          (is_change_at other change || any_at other changes)
      by true e rest =
          let here : is_change_at other change ≡ false =
          ap (λ (p : Place). is_eq (place_cmp p other)) (at_one at change e) ∙ off in
          rest ∙ sym (ap (λ (c : Bool). c || any_at other changes) here)
      by false e rest = ap (λ (c : Bool). is_change_at other change || c) rest

none_more : (place at : Place) (changes : List Change) → any_at place changes ≡ false →
    any_at place (without at changes) ≡ false
none_more place at [] e = refl
none_more place at (change ∷ changes) e =
    let parts = is_false (is_change_at place change) (any_at place changes) e in
    by (is_change_at at change) (none_more place at changes parts.1) parts.0 where
      by : (b : Bool) → any_at place (without at changes) ≡ false →
          is_change_at place change ≡ false →
          any_at place (cond (not b) (change ∷ without at changes) (without at changes)) ≡ false
      by true rest here = rest
      by false rest here = ap (λ (c : Bool). c || any_at place (without at changes)) here ∙ rest

pub once_without : (at : Place) (changes : List Change) → AreOnePerPlace changes →
    AreOnePerPlace (without at changes)
once_without at [] once = once
once_without at (change ∷ changes) once =
    by (is_change_at at change) (once_without at changes once.1) where
      by : (b : Bool) → AreOnePerPlace (without at changes) →
          AreOnePerPlace (cond (not b) (change ∷ without at changes) (without at changes))
      by true rest = rest
      by false rest = (none_more (of_place change) at changes once.0, rest)

-- ---- one of the place is one fewer without it

pub one_fewer : (at : Place) (changes : List Change) → AreOnePerPlace changes →
    any_at at changes ≡ true → length changes ≡ suc (length (without at changes))
one_fewer at [] once e = absurd (true≢false (sym e))
one_fewer at (change ∷ changes) once e =
    by (is_change_at at change) refl e (one_fewer at changes once.1) where
      by : (b : Bool) → is_change_at at change ≡ b → (b || any_at at changes) ≡ true →
          (any_at at changes ≡ true → length changes ≡ suc (length (without at changes))) →
          length (change ∷ changes) ≡
          suc (length (cond (not b) (change ∷ without at changes) (without at changes)))
      by true here f rest =
          let gone : any_at at changes ≡ false =
          sym (one_place change at (at_one at change here) changes) ∙ once.0 in
          ap (λ (some : List Change). suc (length some)) (sym (none_kept at changes gone))
      by false here f rest = ap (λ (n : ℕ). suc n) (rest f)

-- ---- lists of the same places are equally long

no_place : (changes : List Change) → ((at : Place) → false ≡ any_at at changes) → changes ≡ []
no_place [] none = refl
no_place (change ∷ changes) none = absurd (true≢false (sym (none (of_place change) ∙
    ap (λ (b : Bool). b || any_at (of_place change) changes) (at_itself change))))

pub equally_long : (left right : List Change) → AreOnePerPlace left → AreOnePerPlace right →
    AreSame left right → length left ≡ length right
equally_long [] right once others same = sym (ap (λ (some : List Change). length some)
    (no_place right same))
equally_long (change ∷ changes) right once others same =
    let at = of_place change in
    let there : any_at at right ≡ true =
    sym (same at) ∙ ap (λ (b : Bool). b || any_at at changes) (at_itself change) in
    let rest : length changes ≡ length (without at right) =
    equally_long changes (without at right) once.1 (once_without at right others)
    (λ other. by other (is_eq (place_cmp at other)) refl) in
    ap (λ (n : ℕ). suc n) rest ∙ sym (one_fewer at right others there) where
      by : (other : Place) (b : Bool) → is_eq (place_cmp (of_place change) other) ≡ b →
          any_at other changes ≡ any_at other (without (of_place change) right)
      by other true e =
          let is : of_place change ≡ other = same_place (of_place change) other e in
          sym (ap (λ (p : Place). any_at p changes) is) ∙
          (once.0 ∙ (sym (none_there (of_place change) right) ∙
          ap (λ (p : Place). any_at p (without (of_place change) right)) is))
      by other false e =
          sym (ap (λ (b : Bool). b || any_at other changes) e) ∙
          (same other ∙ sym (others_there (of_place change) other right e))
