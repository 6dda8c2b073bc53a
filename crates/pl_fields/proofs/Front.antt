-- Numbers and lengths at the front of bytes.
use Rattle.std.proofs.Common.{◌≡◌, ◌≢◌, ℕ, ◌+◌, ◌^◌, ◌<◌, ◌≤◌, List, [], ◌∷◌, ◌++◌, length, take}
use Rattle.std.proofs.Common.{drop, get_or, refl, sym, ap, ◌∙◌, append_assoc, length-append, arith}
use Rattle.std.proofs.Common.{inl, inr}
use Rattle.std.specs.Int.{w32, w64, from_be_bytes}
use Rattle.std.proofs.lemmas.Bool.{cases_lt}
use Rattle.std.proofs.lemmas.List.{take-append-drop, length-take, get_or-take, get_or_past}
use Rattle.std.proofs.lemmas.Nat.{be_bytes_4, be_bytes_8}
use Rattle.pl_fields.specs.Fields.{number, count, text}
use Rattle.pl_fields.specs.WaysOfFields.{count_len, count_one_way, number_len}

abbrev pub AreBytes : List ℕ → Type 0
AreBytes bytes = (i : ℕ) → get_or bytes i 0 < 256

front_fits : (n : ℕ) (bytes : List ℕ) → AreBytes bytes → AreBytes (take n bytes)
front_fits n bytes fits i =
    elim (cases_lt i n) [
      | inl lt ↦ rw (get_or-take n bytes i 0 lt) (fits i)
      | inr le ↦ rw (get_or_past (take n bytes) i 0 (omega (arith, length-take n bytes)))
          (omega arith)
    ]

pub number_found : (bytes : List ℕ) (n : ℕ) (rest : List ℕ) → AreBytes bytes → 8 ≤ length bytes →
    n ≡ from_be_bytes w64 (take 8 bytes)
    → rest ≡ drop 8 bytes → bytes ≡ number n ++ rest
unfolding number
number_found bytes n rest fits long value is_rest =
    let front : number n ≡ take 8 bytes =
    be_bytes_8 (take 8 bytes) n (omega (arith, length-take 8 bytes)) (front_fits 8 bytes fits)
    value in
    sym (take-append-drop 8 bytes) ∙ sym (λ i. front i ++ is_rest i)

pub count_found : (bytes : List ℕ) (n : ℕ) (rest : List ℕ) → AreBytes bytes → 4 ≤ length bytes → n ≡
    from_be_bytes w32 (take 4 bytes)
    → rest ≡ drop 4 bytes → bytes ≡ count n ++ rest
unfolding count
count_found bytes n rest fits long value is_rest =
    let front : count n ≡ take 4 bytes =
    be_bytes_4 (take 4 bytes) n (omega (arith, length-take 4 bytes)) (front_fits 4 bytes fits)
    value in
    sym (take-append-drop 4 bytes) ∙ sym (λ i. front i ++ is_rest i)

pub no_number : (bytes : List ℕ) → length bytes < 8 → (n : ℕ) (rest : List ℕ) → bytes ≢ number n ++
    rest
no_number bytes short n rest e =
    omega (arith, ap length e, length-append (number n) rest, number_len n)

pub no_count : (bytes : List ℕ) → length bytes < 4 → (n : ℕ) (rest : List ℕ) → bytes ≢ count n ++
    rest
no_count bytes short n rest e =
    omega (arith, ap length e, length-append (count n) rest, count_len n)

-- a text's length, and as many bytes behind it
pub text_found : (bytes : List ℕ) (n : ℕ) (behind piece rest : List ℕ) → n < 2 ^ 32 → bytes ≡
    count n ++ behind → n ≤ length behind
    → piece ≡ take n behind → rest ≡ drop n behind → (length piece < 2 ^ 32) ×
    (bytes ≡ text piece ++ rest)
unfolding text
text_found bytes n behind piece rest small parts long is_piece is_rest =
    let len : length piece ≡ n = ap length is_piece ∙ omega (arith, length-take n behind) in
    let whole : behind ≡ piece ++ rest = sym (take-append-drop n behind) ∙
    sym (λ i. is_piece i ++ is_rest i) in (
      omega arith,
      parts ∙ (ap (λ (r : List ℕ). count n ++ r) whole ∙ (sym (append_assoc (count n) piece rest)
          ∙ ap (λ (k : ℕ). (count k ++ piece) ++ rest) (sym len))),
    )

pub no_text_counted : (bytes : List ℕ) →
    ((n : ℕ) (rest : List ℕ) → n < 2 ^ 32 → bytes ≢ count n ++ rest)
    → (piece rest : List ℕ) → length piece < 2 ^ 32 → bytes ≢ text piece ++ rest
unfolding text
no_text_counted bytes miss piece rest short e =
    miss (length piece) (piece ++ rest) short (e ∙ append_assoc (count (length piece)) piece rest)

pub no_text_behind : (bytes : List ℕ) (n : ℕ) (behind : List ℕ) → n < 2 ^ 32 → bytes ≡ count n ++
    behind → length behind < n
    → (piece rest : List ℕ) → length piece < 2 ^ 32 → bytes ≢ text piece ++ rest
unfolding text
no_text_behind bytes n behind small parts few piece rest short e =
    let same = count_one_way n (length piece) behind (piece ++ rest) small short
    (sym parts ∙ (e ∙ append_assoc (count (length piece)) piece rest)) in
    omega (arith, same.0, ap length same.1, length-append piece rest)
