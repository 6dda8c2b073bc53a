-- Control characters, by the bytes of a text.
use Rattle.std.proofs.Common.{◌≡◌, ℕ, ◌+◌, ◌/◌, ◌%◌, ◌≤◌, ◌<◌, Bool, true, false}
use Rattle.std.proofs.Common.{List, [], ◌∷◌, refl, ap, sym, ◌∙◌, arith, nat_lt}
use Rattle.std.proofs.Common.{IsUtf8, le-ltb, lt-ltb}
use Rattle.std.specs.Prelude.{◌==◌, ◌||◌, ◌++◌, encode_utf8_all}
use Rattle.std.specs.Char.{encode_utf8, is_control}
use Rattle.std.specs.List.{list_any}
use Rattle.std.specs.Str.{chars}
use Rattle.std.proofs.lemmas.Bool.Decides.{nat_tests}
use Rattle.std.proofs.lemmas.Str.{encodes-chars}
use Rattle.pl_names.specs.Bytes.{ends_control, has_control_behind}

-- ---- the bytes of a character

one : (c : ℕ) → c < 128 → encode_utf8 c ≡ c ∷ []
unfolding encode_utf8
one c low = rw (lt-ltb c 128 low)

two : (c : ℕ) → 128 ≤ c → c < 2048 → encode_utf8 c ≡ (192 + c / 64) ∷ (128 + c % 64) ∷ []
unfolding encode_utf8
two c low high = rw (le-ltb c 128 low, lt-ltb c 2048 high)

three : (c : ℕ) → 2048 ≤ c → c < 65536 →
    encode_utf8 c ≡ (224 + c / 4096) ∷ (128 + c / 64 % 64) ∷ (128 + c % 64) ∷ []
unfolding encode_utf8
three c low high =
    rw (le-ltb c 128 (omega arith), le-ltb c 2048 low, lt-ltb c 65536 high)

four : (c : ℕ) → 65536 ≤ c → encode_utf8 c ≡
    (240 + c / 262144) ∷ (128 + c / 4096 % 64) ∷ (128 + c / 64 % 64) ∷ (128 + c % 64) ∷ []
unfolding encode_utf8
four c low =
    rw (le-ltb c 128 (omega arith), le-ltb c 2048 (omega arith), le-ltb c 65536 low)

-- ---- one byte

apart : (byte : ℕ) → byte < 192 → (byte == 194) ≡ false
apart byte low = grind (arith, nat_tests)

beyond : (byte : ℕ) → 224 ≤ byte → (byte == 194) ≡ false
beyond byte high = grind (arith, nat_tests)

short : (last byte : ℕ) → (last == 194) ≡ false → byte < 128 →
    ends_control last byte ≡ is_control byte
short last byte other low = grind (arith, nat_tests)

quiet : (last byte : ℕ) → (last == 194) ≡ false → 128 ≤ byte → ends_control last byte ≡ false
quiet last byte other high = grind (arith, nat_tests)

lead : (last byte : ℕ) → 192 ≤ byte → ends_control last byte ≡ false
lead last byte high = grind (arith, nat_tests)

pair : (c : ℕ) → 128 ≤ c → c < 2048 → ends_control (192 + c / 64) (128 + c % 64) ≡ is_control c
pair c low high = grind (arith, nat_tests)

large : (c : ℕ) → 2048 ≤ c → is_control c ≡ false
large c high = grind (arith, nat_tests)

-- ---- one character

-- what stands behind a byte that isn't 194 has this answer
abbrev Stays : List ℕ → Bool → Type 0
Stays bytes rest = (last : ℕ) → (last == 194) ≡ false → has_control_behind last bytes ≡ rest

module _ (bytes : List ℕ) (rest : Bool) (stays : Stays bytes rest) where
  skip : (last byte : ℕ) (more : List ℕ) (b : Bool) → ends_control last byte ≡ false →
      has_control_behind byte more ≡ b → has_control_behind last (byte ∷ more) ≡ b
  skip last byte more b calm behind =
      ap (λ e. e || has_control_behind byte more) calm ∙ behind

  follow : (last byte : ℕ) (more : List ℕ) (b : Bool) → (last == 194) ≡ false → 128 ≤ byte →
      has_control_behind byte more ≡ b → has_control_behind last (byte ∷ more) ≡ b
  follow last byte more b other high behind =
      skip last byte more b (quiet last byte other high) behind

  none : (c : ℕ) → 2048 ≤ c → rest ≡ (is_control c || rest)
  none c high = sym (ap (λ b. b || rest) (large c high))

  by_one : (c last : ℕ) → c < 128 → (last == 194) ≡ false →
      has_control_behind last (c ∷ bytes) ≡ (is_control c || rest)
  by_one c last low other =
      ap (λ e. e || has_control_behind c bytes) (short last c other low)
      ∙ ap (λ b. is_control c || b) (stays c (apart c (omega arith)))

  by_two : (c last : ℕ) → 128 ≤ c → c < 2048 →
      has_control_behind last ((192 + c / 64) ∷ (128 + c % 64) ∷ bytes) ≡ (is_control c || rest)
  by_two c last low high =
      skip last (192 + c / 64) ((128 + c % 64) ∷ bytes) _ (lead last (192 + c / 64) (omega arith))
      (ap (λ e. e || has_control_behind (128 + c % 64) bytes) (pair c low high)
      ∙ ap (λ b. is_control c || b) (stays (128 + c % 64) (apart (128 + c % 64) (omega arith))))

  last_of : (c last : ℕ) → 2048 ≤ c → (last == 194) ≡ false →
      has_control_behind last ((128 + c % 64) ∷ bytes) ≡ (is_control c || rest)
  last_of c last high other =
      follow last (128 + c % 64) bytes _ other (omega arith)
      (stays (128 + c % 64) (apart (128 + c % 64) (omega arith)) ∙ none c high)

  last_two : (c last : ℕ) → 2048 ≤ c → (last == 194) ≡ false →
      has_control_behind last ((128 + c / 64 % 64) ∷ (128 + c % 64) ∷ bytes) ≡
      (is_control c || rest)
  last_two c last high other =
      follow last (128 + c / 64 % 64) ((128 + c % 64) ∷ bytes) _ other (omega arith)
      (last_of c (128 + c / 64 % 64) high (apart (128 + c / 64 % 64) (omega arith)))

  by_three : (c last : ℕ) → 2048 ≤ c →
      has_control_behind last
      ((224 + c / 4096) ∷ (128 + c / 64 % 64) ∷ (128 + c % 64) ∷ bytes) ≡
      (is_control c || rest)
  by_three c last high =
      skip last (224 + c / 4096) ((128 + c / 64 % 64) ∷ (128 + c % 64) ∷ bytes) _
      (lead last (224 + c / 4096) (omega arith))
      (last_two c (224 + c / 4096) high (beyond (224 + c / 4096) (omega arith)))

  by_four : (c last : ℕ) → 2048 ≤ c →
      has_control_behind last
      ((240 + c / 262144) ∷ (128 + c / 4096 % 64) ∷ (128 + c / 64 % 64) ∷ (128 + c % 64) ∷ bytes) ≡
      (is_control c || rest)
  by_four c last high =
      skip last (240 + c / 262144)
      ((128 + c / 4096 % 64) ∷ (128 + c / 64 % 64) ∷ (128 + c % 64) ∷ bytes) _
      (lead last (240 + c / 262144) (omega arith))
      (follow (240 + c / 262144) (128 + c / 4096 % 64)
      ((128 + c / 64 % 64) ∷ (128 + c % 64) ∷ bytes) _
      (beyond (240 + c / 262144) (omega arith)) (omega arith)
      (last_two c (128 + c / 4096 % 64) high (apart (128 + c / 4096 % 64) (omega arith))))

  by_bytes : (c last : ℕ) → (last == 194) ≡ false → (t u v : Bool) → nat_lt c 128 ≡ t →
      nat_lt c 2048 ≡ u → nat_lt c 65536 ≡ v →
      has_control_behind last (encode_utf8 c ++ bytes) ≡ (is_control c || rest)
  by_bytes c last other true u v is1 is2 is3 =
      let low : c < 128 = grind (arith, nat_tests) in
      ap (λ cs. has_control_behind last (cs ++ bytes)) (one c low) ∙ by_one c last low other
  by_bytes c last other false true v is1 is2 is3 =
      let low : 128 ≤ c = grind (arith, nat_tests) in
      let high : c < 2048 = grind (arith, nat_tests) in
      ap (λ cs. has_control_behind last (cs ++ bytes)) (two c low high) ∙ by_two c last low high
  by_bytes c last other false false true is1 is2 is3 =
      let low : 2048 ≤ c = grind (arith, nat_tests) in
      let high : c < 65536 = grind (arith, nat_tests) in
      ap (λ cs. has_control_behind last (cs ++ bytes)) (three c low high) ∙ by_three c last low
  by_bytes c last other false false false is1 is2 is3 =
      let low : 65536 ≤ c = grind (arith, nat_tests) in
      ap (λ cs. has_control_behind last (cs ++ bytes)) (four c low) ∙ by_four c last (omega arith)

-- ---- a text

spelled : (cs : List ℕ) → Stays (encode_utf8_all cs) (list_any is_control cs)
spelled [] last other = refl
spelled (c ∷ cs) last other =
    by_bytes (encode_utf8_all cs) (list_any is_control cs) (spelled cs) c last other
    (nat_lt c 128) (nat_lt c 2048) (nat_lt c 65536) refl refl refl

pub told : (text : List ℕ) → IsUtf8 text →
    has_control_behind 0 text ≡ list_any is_control (chars text)
told text utf8 =
    ap (has_control_behind 0) (sym (encodes-chars text utf8)) ∙ spelled (chars text) 0 refl
