-- Characters and bytes are escaped alike.
use Rattle.std.proofs.Common.{◌≡◌, ℕ, ◌+◌, ◌*◌, ◌/◌, ◌%◌, ◌<◌, ◌≤◌, Bool, true, false, cond, not}
use Rattle.std.proofs.Common.{List, [], ◌∷◌, ◌++◌, refl, ap, sym, ◌∙◌, arith, inl, inr}
use Rattle.std.specs.Prelude.{nat_lt, flat_map, encode_utf8_all}
use Rattle.std.specs.Char.{encode_utf8}
use Rattle.std.specs.List.{list_all}
use Rattle.std.proofs.Math.Nat.{div-add-mod, mod-lt}
use Rattle.std.proofs.Math.Utf8.{scalar, scalars}
use Rattle.std.proofs.lemmas.Bool.{and_parts, and_from, cases_lt}
use Rattle.std.proofs.lemmas.Bool.Decides.{nat_tests}
use Rattle.std.proofs.lemmas.Grind.{flat_map-append}
use Rattle.std.proofs.lemmas.List.{append-nil}
use Rattle.std.proofs.lemmas.Str.{encodes-append, encode_ascii}
use Rattle.pl_printing.specs.Printed.{hex_digit, escaped, quoted}
use Rattle.pl_round_trip.proofs.Quotes.{by_escape}

-- ---- texts of ASCII

is_ascii : List ℕ → Bool
is_ascii = list_all (λ c. nat_lt c 128)

ascii_more : (c : ℕ) (cs : List ℕ) → c < 128 → is_ascii cs ≡ true → is_ascii (c ∷ cs) ≡ true
unfolding is_ascii
ascii_more c cs small ascii = let here : nat_lt c 128 ≡ true = grind (arith, nat_tests) in
    and_from (nat_lt c 128) (is_ascii cs) here ascii

ascii_encoded : (cs : List ℕ) → is_ascii cs ≡ true → encode_utf8_all cs ≡ cs
unfolding is_ascii
ascii_encoded [] ascii = refl
ascii_encoded (c ∷ cs) ascii =
    let parts = and_parts (nat_lt c 128) (is_ascii cs) ascii in
    ap (λ bytes. bytes ++ encode_utf8_all cs) (encode_ascii c (low c parts.0)) ∙
    ap (λ bytes. c ∷ bytes) (ascii_encoded cs parts.1)
  where
    low : (c : ℕ) → nat_lt c 128 ≡ true → c < 128
    low c small = grind (arith, nat_tests)

digit_low : (n : ℕ) → n < 16 → hex_digit n < 128
digit_low n less = grind (arith, nat_tests)

escaped_ascii : (c : ℕ) → c < 128 → is_ascii (escaped c) ≡ true
unfolding is_ascii
escaped_ascii c small =
    by_escape (λ c cs. c < 128 → is_ascii cs ≡ true)
    (λ small. refl) (λ small. refl) (λ small. refl) (λ small. refl) (λ small. refl)
    (λ c low small.
    let whole : 16 * (c / 16) + c % 16 ≡ c = div-add-mod c 16 in
    ascii_more (hex_digit (c / 16)) (hex_digit (c % 16) ∷ [])
    (digit_low (c / 16) (omega (arith, whole)))
    (ascii_more (hex_digit (c % 16)) [] (digit_low (c % 16) (mod-lt c {m = 16} (omega arith)))
    refl))
    (λ c printable no_quote no_backslash small. ascii_more c [] small refl)
    c small

-- ---- texts of other bytes

is_high : List ℕ → Bool
is_high = list_all (λ c. not (nat_lt c 128))

high_more : (c : ℕ) (cs : List ℕ) → 128 ≤ c → is_high cs ≡ true → is_high (c ∷ cs) ≡ true
unfolding is_high
high_more c cs large high = let here : not (nat_lt c 128) ≡ true = grind (arith, nat_tests) in
    and_from (not (nat_lt c 128)) (is_high cs) here high

high_escaped : (c : ℕ) → 128 ≤ c → escaped c ≡ c ∷ []
high_escaped c large = grind (arith, nat_tests)

high_stays : (cs : List ℕ) → is_high cs ≡ true → flat_map escaped cs ≡ cs
unfolding is_high
high_stays [] high = refl
high_stays (c ∷ cs) high =
    let parts = and_parts (not (nat_lt c 128)) (is_high cs) high in
    ap (λ bytes. bytes ++ flat_map escaped cs) (high_escaped c (large c parts.0)) ∙
    ap (λ bytes. c ∷ bytes) (high_stays cs parts.1)
  where
    large : (c : ℕ) → not (nat_lt c 128) ≡ true → 128 ≤ c
    large c e = grind (arith, nat_tests)

high_none : is_high [] ≡ true
unfolding is_high
high_none = refl

high_next : (c : ℕ) (cs : List ℕ) → is_high cs ≡ true → is_high ((128 + c % 64) ∷ cs) ≡ true
high_next c cs high = high_more (128 + c % 64) cs (omega arith) high

high_both :
    (test : Bool) (xs ys : List ℕ) → is_high xs ≡ true → is_high ys ≡ true →
    is_high (cond test xs ys) ≡ true
high_both true xs ys first second = first
high_both false xs ys first second = second

high_encoded : (c : ℕ) → 128 ≤ c → is_high (encode_utf8 c) ≡ true
unfolding encode_utf8
high_encoded c large =
    let one : List ℕ = (128 + c % 64) ∷ [] in
    let two : List ℕ = (128 + c / 64 % 64) ∷ one in
    let three : List ℕ = (128 + c / 4096 % 64) ∷ two in
    let last : is_high one ≡ true = high_next c [] high_none in
    let before : is_high two ≡ true = high_next (c / 64) one last in
    let first : is_high three ≡ true = high_next (c / 4096) two before in
    high_both (nat_lt c 128) (c ∷ []) _ (high_more c [] large high_none)
    (high_both (nat_lt c 2048) ((192 + c / 64) ∷ one) _ (high_more (192 + c / 64) one (omega arith)
    last)
    (high_both (nat_lt c 65536) ((224 + c / 4096) ∷ two) ((240 + c / 262144) ∷ three)
    (high_more (224 + c / 4096) two (omega arith) before)
    (high_more (240 + c / 262144) three (omega arith) first)))

-- ---- escapes

-- one character
escaped_bytes : (c : ℕ) → flat_map escaped (encode_utf8 c) ≡ encode_utf8_all (escaped c)
escaped_bytes c =
    elim (cases_lt c 128) [
      | inl small ↦
          ap (flat_map escaped) (encode_ascii c small) ∙
          (append-nil (escaped c) ∙ sym (ascii_encoded (escaped c) (escaped_ascii c small)))
      | inr large ↦
          high_stays (encode_utf8 c) (high_encoded c large)
          ∙ (sym (append-nil (encode_utf8 c)) ∙ ap encode_utf8_all (sym (high_escaped c large)))
    ]

all_escaped_bytes :
    (cs : List ℕ) → flat_map escaped (encode_utf8_all cs) ≡ encode_utf8_all (flat_map escaped cs)
all_escaped_bytes [] = refl
all_escaped_bytes (c ∷ cs) =
    flat_map-append escaped (encode_utf8 c) (encode_utf8_all cs)
    ∙ (ap (λ bytes. bytes ++ flat_map escaped (encode_utf8_all cs)) (escaped_bytes c)
    ∙ (ap (λ bytes. encode_utf8_all (escaped c) ++ bytes) (all_escaped_bytes cs)
    ∙ sym (encodes-append (escaped c) (flat_map escaped cs))))

pub quoted_bytes : (cs : List ℕ) → quoted (encode_utf8_all cs) ≡ encode_utf8_all (quoted cs)
unfolding encode_utf8
quoted_bytes cs =
    ap (λ bytes. 34 ∷ bytes ++ 34 ∷ []) (all_escaped_bytes cs)
    ∙ ap (λ bytes. 34 ∷ bytes) (sym (encodes-append (flat_map escaped cs) (34 ∷ [])))

-- ---- characters are Unicode scalar values

pub scalars_append :
    (xs ys : List ℕ) → scalars xs ≡ true → scalars ys ≡ true → scalars (xs ++ ys) ≡ true
scalars_append [] ys first second = second
scalars_append (x ∷ xs) ys first second =
    let parts = and_parts (scalar x) (scalars xs) first in
    and_from (scalar x) (scalars (xs ++ ys)) parts.0 (scalars_append xs ys parts.1 second)

ascii_scalars : (cs : List ℕ) → is_ascii cs ≡ true → scalars cs ≡ true
unfolding is_ascii
ascii_scalars [] ascii = refl
ascii_scalars (c ∷ cs) ascii =
    let parts = and_parts (nat_lt c 128) (is_ascii cs) ascii in
    and_from (scalar c) (scalars cs) (small c parts.0) (ascii_scalars cs parts.1)
  where
    small : (c : ℕ) → nat_lt c 128 ≡ true → scalar c ≡ true
    small c low = grind (arith, nat_tests)

escaped_scalars : (c : ℕ) → scalar c ≡ true → scalars (escaped c) ≡ true
escaped_scalars c is =
    elim (cases_lt c 128) [
      | inl small ↦ ascii_scalars (escaped c) (escaped_ascii c small)
      | inr large ↦ ap scalars (high_escaped c large) ∙ and_from (scalar c) true is refl
    ]

all_escaped_scalars : (cs : List ℕ) → scalars cs ≡ true → scalars (flat_map escaped cs) ≡ true
all_escaped_scalars [] all = refl
all_escaped_scalars (c ∷ cs) all =
    let parts = and_parts (scalar c) (scalars cs) all in
    scalars_append (escaped c) (flat_map escaped cs) (escaped_scalars c parts.0)
    (all_escaped_scalars cs parts.1)

pub quoted_scalars : (cs : List ℕ) → scalars cs ≡ true → scalars (quoted cs) ≡ true
quoted_scalars cs all = scalars_append (flat_map escaped cs) (34 ∷ []) (all_escaped_scalars cs all)
    refl
