-- What digits say, and the texts that are plain.
use Rattle.std.proofs.Common.{◌≡◌, ℕ, ◌+◌, ◌<◌, ◌≤◌, ◌^◌, ◌&&◌, Bool, true, false, List, [], ◌∷◌}
use Rattle.std.proofs.Common.{get_or, cond, ap, arith, refl, sym, ◌∙◌, length, not, ◌==◌, Ok, Err}
use Rattle.std.proofs.Common.{drop, subst}
use Rattle.std.proofs.lemmas.Bool.{lt-ltb, ltb-true, leb-true}
use Rattle.std.proofs.lemmas.Int.Digits.{digits_value-lt}
use Rattle.std.proofs.Math.Nat.{pow-le-pow_right}
use Rattle.std.specs.Char.{digit_value}
use Rattle.std.specs.Str.Parse.{digits_value, without_leading_plus, IsNumeral, AllDigits}
use Rattle.pl_routes.specs.declared.fault.RouteFault.TheVariants.{RouteUnknown}
use Rattle.pl_routes.specs.Rules.{is_plain, is_numeral, are_digits, run_said}

both : (a b : Bool) → (a && b) ≡ true → (a ≡ true) × (b ≡ true)
both true b e = (refl, e)
both false b e = cc

unsigned : (text : List ℕ) → is_plain text ≡ true → without_leading_plus text ≡ text
unsigned text plain = go (get_or text 0 0 == 43) (both _ _ plain).0
  where
    go : (b : Bool) → not b ≡ true → drop (cond b 1 0) text ≡ text
    go false e = refl
    go true e = cc

all_digits : (text : List ℕ) → are_digits text ≡ true → AllDigits 10 text
all_digits [] e = tt
all_digits (c ∷ cs) e =
    let parts = both _ _ e in (ltb-true _ _ parts.0, all_digits cs parts.1)

digits_all : (text : List ℕ) → AllDigits 10 text → are_digits text ≡ true
digits_all [] all = refl
digits_all (c ∷ cs) (first, rest) = rw (lt-ltb (digit_value c) 10 first) (digits_all cs rest)

numeral_is : (text : List ℕ) → IsNumeral 10 text → is_numeral text ≡ true
numeral_is text (some, all) = rw (lt-ltb 0 (length text) some) (digits_all text all)

is_numeral_of : (text : List ℕ) → is_numeral text ≡ true → IsNumeral 10 text
is_numeral_of text e = let parts = both _ _ e in (ltb-true _ _ parts.0, all_digits text parts.1)

-- 18 digits say less than 8 bytes hold
fits : (text : List ℕ) → is_plain text ≡ true → IsNumeral 10 text → digits_value 10 text < 2 ^ 64
fits text plain is =
    let short : length text ≤ 18 = leb-true _ _ (both _ _ (both _ _ plain).1).1 in
    let most = pow-le-pow_right {n = 10} (omega arith) short in
    let below = digits_value-lt 10 text is.1 in
    omega (arith, most, below)

pub not_plain : (text : List ℕ) → is_plain text ≡ false → run_said text ≡ Err RouteUnknown
unfolding run_said
not_plain text e =
    ap (λ b. cond (b && is_numeral text) (Ok (digits_value 10 text)) (Err RouteUnknown)) e

-- what a number's digits say
pub parsed :
    (text : List ℕ) (number : ℕ) → is_plain text ≡ true → IsNumeral 10 (without_leading_plus text)
    → number ≡ digits_value 10 (without_leading_plus text) → run_said text ≡ Ok number
unfolding run_said
parsed text number plain is value =
    let same = unsigned text plain in
    let numeral = numeral_is text (subst (IsNumeral 10) same is) in
    ap (λ b. cond (b && is_numeral text) (Ok (digits_value 10 text)) (Err RouteUnknown)) plain
    ∙ ap (λ b. cond b (Ok (digits_value 10 text)) (Err RouteUnknown)) numeral
    ∙ ap Ok (sym (value ∙ ap (digits_value 10) same))

-- what isn't read is no number
pub not_parsed :
    (text : List ℕ) → is_plain text ≡ true
    → (IsNumeral 10 (without_leading_plus text) × (digits_value 10 (without_leading_plus text) <
    2 ^ 64) → ⊥)
    → run_said text ≡ Err RouteUnknown
unfolding run_said
not_parsed text plain none =
    ap (λ b. cond (b && is_numeral text) (Ok (digits_value 10 text)) (Err RouteUnknown)) plain
    ∙ go (is_numeral text) refl
  where
    go : (b : Bool) → is_numeral text ≡ b
        → cond b (Ok (digits_value 10 text)) (Err RouteUnknown) ≡ Err RouteUnknown
    go false e = refl
    go true e =
        let is = is_numeral_of text e in
        let same = sym (unsigned text plain) in
        absurd (none (subst (λ (t : List ℕ). IsNumeral 10 t × (digits_value 10 t < 2 ^ 64)) same
        (is, fits text plain is)))
