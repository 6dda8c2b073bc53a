-- The lines of a text.
use Rattle.std.proofs.Common.{◌≡◌, ℕ, suc, ◌+◌, ◌≤◌, Bool, false, not, cond, List, [], ◌∷◌, ◌++◌}
use Rattle.std.proofs.Common.{Option, Some, None, length, take, drop, get_or, refl, sym, ap, ◌∙◌}
use Rattle.std.proofs.Common.{inl, inr, arith}
use Rattle.std.specs.Prelude.{◌==◌}
use Rattle.std.specs.List.{slice_split, onto_first, position_or_len, last_or}
use Rattle.std.proofs.lemmas.Bool.{cases_Bool}
use Rattle.std.proofs.lemmas.Bool.Decides.{nat_tests}
use Rattle.std.proofs.lemmas.List.{drop-drop, take_all, take_more, get_or-drop}
use Rattle.std.proofs.lemmas.List.Splits.{length-slice_split, slice_split_first}
use Rattle.std.proofs.lemmas.List.Splits.{slice_split-cons_no}

-- a text has a line
pub slice_split-some : {X : Type 0} (p : X → Bool) (xs : List X) → slice_split p xs ≡ [] → ⊥
slice_split-some p xs none = omega (arith, length-slice_split p xs, ap length none)

none_before :
    (p : ℕ → Bool) (xs : List ℕ) → length xs ≤ position_or_len p xs → slice_split p xs ≡ xs ∷ []
none_before p [] past = refl
none_before p (x ∷ xs) past =
    elim (cases_Bool (p x)) [
      | inl here ↦ let at_once : position_or_len p (x ∷ xs) ≡ 0 =
          ap (λ b. cond (not b) (1 + position_or_len p xs) 0) here in absurd (omega arith)
      | inr not_here ↦
          let later : position_or_len p (x ∷ xs) ≡ 1 + position_or_len p xs =
          ap (λ b. cond (not b) (1 + position_or_len p xs) 0) not_here in
          slice_split-cons_no p x xs not_here ∙ ap (onto_first x) (none_before p xs (omega arith))
    ]

-- the place of the first line feed, with a character taken off that is none
pub feed_next :
    (text rest : List ℕ) (c len place : ℕ) → (c ≡ 10 → ⊥) → text ≡ c ∷ rest →
    len + position_or_len (λ x. x == 10) text ≡ place →
    len + 1 + position_or_len (λ x. x == 10) rest ≡ place
feed_next text rest c len place other taken is =
    let none : c == 10 ≡ false = grind (arith, nat_tests, other) in
    let one : position_or_len (λ x. x == 10) text ≡ 1 + position_or_len (λ x. x == 10) rest =
    ap (position_or_len (λ x. x == 10)) taken ∙
    ap (λ b. cond (not b) (1 + position_or_len (λ x. x == 10) rest) 0) none
    in
    omega (arith, is, one)

-- the place of the first line feed, behind so many characters
module _ (text left : List ℕ) (len : ℕ) (place : len + position_or_len (λ c. c == 10) left ≡
    position_or_len (λ c. c == 10) text)
    (within : len + length left ≡ length text) where
  pub cut_found :
      (rest : List ℕ) → left ≡ drop len text → left ≡ 10 ∷ rest →
      slice_split (λ c. c == 10) text ≡ take len text ∷ slice_split (λ c. c == 10) rest
  cut_found rest behind is =
      let at : position_or_len (λ c. c == 10) left ≡ 0 = ap (position_or_len (λ c. c == 10)) is in
      let here : position_or_len (λ c. c == 10) text ≡ len = omega (arith, place, at) in
      let some : length left ≡ suc (length rest) = ap length is in
      let beyond : drop (len + 1) text ≡ rest = sym (drop-drop 1 len text) ∙
      ap (drop 1) (sym behind) ∙ ap (drop 1) is in
      slice_split_first (λ c. c == 10) text 0 (omega (arith, here, some, within))
      ∙ ap (λ n. take n text ∷ slice_split (λ c. c == 10) (drop (n + 1) text)) here
      ∙ ap (λ r. take len text ∷ slice_split (λ c. c == 10) r) beyond

  pub cut_last : left ≡ [] → slice_split (λ c. c == 10) text ≡ take len text ∷ []
  cut_last is =
      let at : position_or_len (λ c. c == 10) left ≡ 0 = ap (position_or_len (λ c. c == 10)) is in
      let done : length left ≡ 0 = ap length is in
      none_before (λ c. c == 10) text (omega (arith, place, at, within, done))
      ∙ ap (λ line. line ∷ []) (sym (take_all len text (omega (arith, within, done))))

-- the last of so many characters
last_or-push : (o : Option ℕ) (xs : List ℕ) (c : ℕ) → last_or o (xs ++ c ∷ []) ≡ Some c
last_or-push o [] c = refl
last_or-push o (x ∷ xs) c = last_or-push (Some x) xs c

pub last_next :
    (text left rest : List ℕ) (len c : ℕ) → left ≡ drop len text → left ≡ c ∷ rest →
    len + length left ≡ length text → last_or None (take (len + 1) text) ≡ Some c
last_next text left rest len c behind is within =
    let some : length left ≡ suc (length rest) = ap length is in
    let at : len + 0 ≡ len = omega arith in
    let item : get_or text len 0 ≡ c = ap (λ n. get_or text n 0) (sym at) ∙
    sym (get_or-drop len text 0 0) ∙ ap (λ l. get_or l 0 0) (sym behind ∙ is) in
    ap (last_or None) (take_more text len 0 (omega (arith, some, within)) ∙
    ap (λ x. take len text ++ x ∷ []) item) ∙ last_or-push None (take len text) c
