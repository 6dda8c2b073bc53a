-- A text holds another one exactly where it is some front, then the other one, then some rest.
use Rattle.std.proofs.Common.{◌≡◌, ◌↔◌, ℕ, Bool, true, false, ◌||◌, List, [], ◌∷◌, ◌++◌, length}
use Rattle.std.proofs.Common.{drop, refl, ap, sym, ◌∙◌, inl, inr}
use Rattle.std.specs.Str.Iter.{HasSubslice}
use Rattle.std.proofs.lemmas.Bool.{cases_Bool}
use Rattle.std.proofs.lemmas.Bool.Decides.{Decides-eqb, same_from_decides}
use Rattle.std.proofs.lemmas.Slice.Eq.{starts_is}
use Rattle.pl_texts.specs.Matching.{begins, holds}

or_true : (b : Bool) → (b || true) ≡ true
or_true true = refl
or_true false = refl

begins_front :
    (text sought : List ℕ) → begins text sought ≡ true → text ≡ sought ++ drop (length sought) text
begins_front text sought = (starts_is Decides-eqb text sought _ refl).0

front_begins : (text sought rest : List ℕ) → text ≡ sought ++ rest → begins text sought ≡ true
front_begins text sought rest = (starts_is Decides-eqb text sought _ refl).1 rest

found : (text sought : List ℕ) → holds text sought ≡ true → HasSubslice text sought
found [] sought here = ([], drop (length sought) [], begins_front [] sought here)
found (byte ∷ text) sought here =
    elim (cases_Bool (begins (byte ∷ text) sought)) [
      | inl first ↦ (
        [],
        drop (length sought) (byte ∷ text),
        begins_front (byte ∷ text) sought
            first,
      )
      | inr later ↦
          let more : HasSubslice text sought =
          found text sought (sym (ap (λ b. b || holds text sought) later) ∙ here) in
          (byte ∷ more.0, more.1, ap (λ t. byte ∷ t) more.2)
    ]

stands_first : (text sought : List ℕ) → begins text sought ≡ true → holds text sought ≡ true
stands_first [] sought here = here
stands_first (byte ∷ text) sought here = ap (λ b. b || holds text sought) here

stands :
    (text sought front rest : List ℕ) → text ≡ front ++ (sought ++ rest) → holds text sought ≡ true
stands text sought [] rest is = stands_first text sought (front_begins text sought rest is)
stands [] sought (byte ∷ front) rest is = cc
stands (first ∷ text) sought (byte ∷ front) rest is =
    ap (λ later. begins (first ∷ text) sought || later)
    (stands text sought front rest (ap (drop 1) is)) ∙ or_true (begins (first ∷ text) sought)

pub contained :
    (r : Bool) (text sought : List ℕ) → (r ≡ true) ↔ HasSubslice text sought → r ≡ holds text sought
contained r text sought test = same_from_decides r (holds text sought) test (
  found text sought,
  λ parts. stands text sought parts.0 parts.1 parts.2,
)
