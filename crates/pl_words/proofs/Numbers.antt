-- What digits say, and the texts that are plain.
use Rattle.std.proofs.Common.{◌≡◌, ℕ, ◌+◌, ◌<◌, ◌≤◌, ◌^◌, ◌&&◌, Bool, true, false, List, [], ◌∷◌}
use Rattle.std.proofs.Common.{get_or, cond, ap, arith, refl, sym, ◌∙◌, length, not, ◌==◌}
use Rattle.std.proofs.Common.{drop, subst, Option, Some, None, nat_le}
use Rattle.std.proofs.lemmas.Bool.{lt-ltb, ltb-true, leb-true}
use Rattle.std.specs.Char.{digit_value}
use Rattle.std.specs.Str.Parse.{digits_value, without_leading_plus, IsNumeral, AllDigits}
use Rattle.pl_words.specs.Runs.{is_plain, is_numeral, are_digits, runs_in, within}

both : (a b : Bool) → (a && b) ≡ true → (a ≡ true) × (b ≡ true)
both true b e = (refl, e)
both false b e = cc

unsigned : (text : List ℕ) → is_plain text ≡ true → without_leading_plus text ≡ text
unsigned text plain = go (get_or text 0 0 == 43) (both _ _ plain).0
  where
    go : (b : Bool) → not b ≡ true → drop (cond b 1 0) text ≡ text
    go false e = refl
    go true e = cc

all_digits : (text : List ℕ) → are_digits text ≡ true → AllDigits 10 text
all_digits [] e = tt
all_digits (c ∷ cs) e =
    let parts = both _ _ e in (ltb-true _ _ parts.0, all_digits cs parts.1)

digits_all : (text : List ℕ) → AllDigits 10 text → are_digits text ≡ true
digits_all [] all = refl
digits_all (c ∷ cs) (first, rest) = rw (lt-ltb (digit_value c) 10 first) (digits_all cs rest)

numeral_is : (text : List ℕ) → IsNumeral 10 text → is_numeral text ≡ true
numeral_is text (some, all) = rw (lt-ltb 0 (length text) some) (digits_all text all)

is_numeral_of : (text : List ℕ) → is_numeral text ≡ true → IsNumeral 10 text
is_numeral_of text e = let parts = both _ _ e in (ltb-true _ _ parts.0, all_digits text parts.1)

-- a text with a sign or a zero in front is none
pub not_plain : (text : List ℕ) → is_plain text ≡ false → runs_in text ≡ None
unfolding runs_in
not_plain text e = ap (λ b. cond (b && is_numeral text) (within (digits_value 10 text)) None) e

-- what a number's digits say
pub parsed :
    (text : List ℕ) (number : ℕ) → is_plain text ≡ true → IsNumeral 10 (without_leading_plus text)
    → number ≡ digits_value 10 (without_leading_plus text) → runs_in text ≡ within number
unfolding runs_in
parsed text number plain is value =
    let same = unsigned text plain in
    let numeral = numeral_is text (subst (IsNumeral 10) same is) in
    ap (λ b. cond (b && is_numeral text) (within (digits_value 10 text)) None) plain
    ∙ ap (λ b. cond b (within (digits_value 10 text)) None) numeral
    ∙ ap within (sym (value ∙ ap (digits_value 10) same))

-- more than 8 bytes hold is more than may be rehearsed
too_many : (number : ℕ) → (number < 2 ^ 64 → ⊥) → within number ≡ None
too_many number large = go (nat_le number 4096) refl
  where
    go : (b : Bool) → nat_le number 4096 ≡ b → cond b (Some number) None ≡ None
    go false e = refl
    go true e =
        let few : number ≤ 4096 = leb-true _ _ e in
        absurd (large (omega (arith, few)))

-- what isn't read is no number, or one of too many
pub not_parsed :
    (text : List ℕ) → is_plain text ≡ true
    → (IsNumeral 10 (without_leading_plus text) × (digits_value 10 (without_leading_plus text) <
    2 ^ 64) → ⊥)
    → runs_in text ≡ None
unfolding runs_in
not_parsed text plain none =
    ap (λ b. cond (b && is_numeral text) (within (digits_value 10 text)) None) plain
    ∙ go (is_numeral text) refl
  where
    go : (b : Bool) → is_numeral text ≡ b → cond b (within (digits_value 10 text)) None ≡ None
    go false e = refl
    go true e =
        let is = is_numeral_of text e in
        let same = sym (unsigned text plain) in
        too_many (digits_value 10 text) (λ small. none
        (subst (λ (t : List ℕ). IsNumeral 10 t × (digits_value 10 t < 2 ^ 64)) same (is, small)))
