-- Where a text may be cut, and its characters.
use Rattle.std.proofs.Common.{◌≡◌, true, false, [], ◌∷◌, ap, inl, inr, drop, ℕ, zero, suc, ◌+◌, ◌-◌}
use Rattle.std.proofs.Common.{◌<◌, ◌≤◌, List, length, get_or, IsUtf8, IsCharBoundary, arith}
use Rattle.std.specs.List.{prefix_len}
use Rattle.std.specs.Char.{is_ascii_digit}
use Rattle.std.proofs.lemmas.List.Sums.{prefix_len_passes, prefix_len_stops, prefix_len-le-length}
use Rattle.std.proofs.lemmas.Bool.{false≢true, cases_lt}
use Rattle.std.proofs.lemmas.Bool.Decides.{nat_tests}
use Rattle.pl_texts.specs.Formatting.{is_plain}
use Rattle.pl_reading.specs.Bytes.{begins_with}
use Rattle.std.proofs.lemmas.Str.{IsCharBoundary-end, IsCharBoundary-before_ascii}
use Rattle.std.proofs.lemmas.Str.{IsCharBoundary-start, IsCharBoundary-after_ascii}

pub boundary_behind_ascii :
    (bytes : List ℕ) (count : ℕ) → IsUtf8 bytes → count ≤ length bytes →
    (0 < count → get_or bytes (count - 1) 0 < 128) → IsCharBoundary bytes count
boundary_behind_ascii bytes zero text within ascii = IsCharBoundary-start bytes text
boundary_behind_ascii bytes (suc before) text within ascii =
    let e : before + 1 ≡ suc before = omega arith in
    let f : suc before - 1 ≡ before = omega arith in
    let last : get_or bytes before 0 < 128 = rw f at (ascii (omega arith)) in
    rw (← e) (IsCharBoundary-after_ascii bytes before text (omega arith) last)

pub begins_with_first :
    (byte : ℕ) (bytes : List ℕ) → begins_with byte bytes ≡ true →
    (0 < length bytes) × (get_or bytes 0 0 ≡ byte)
begins_with_first byte [] begins = absurd (false≢true begins)
begins_with_first byte (first ∷ bytes) begins = (omega arith, grind (arith, nat_tests))

pub begins_with_is :
    (byte : ℕ) (bytes : List ℕ) → begins_with byte bytes ≡ true → bytes ≡ byte ∷ drop 1 bytes
begins_with_is byte [] begins = absurd (false≢true begins)
begins_with_is byte (first ∷ bytes) begins = let e : first ≡ byte = grind (arith, nat_tests) in
    ap (λ front. front ∷ bytes) e

pub digits_are_ascii :
    (bytes : List ℕ) (count : ℕ) → count ≡ prefix_len is_ascii_digit bytes → 0 < count →
    get_or bytes (count - 1) 0 < 128
digits_are_ascii bytes count e some =
    let passes = prefix_len_passes is_ascii_digit bytes (count - 1) 0 (omega arith) in
    grind (arith, nat_tests)

-- a text may be cut before its first brace
pub boundary_before_brace :
    (bytes : List ℕ) (count : ℕ) → count ≡ prefix_len is_plain bytes → IsCharBoundary bytes count
boundary_before_brace bytes count e =
    elim (cases_lt count (length bytes)) [
      | inl before ↦ IsCharBoundary-before_ascii bytes count before (brace before)
      | inr all ↦ let end : count ≡ length bytes =
          omega (arith, prefix_len-le-length is_plain bytes) in rw end (IsCharBoundary-end bytes)
    ]
  where
    brace : count < length bytes → get_or bytes count 0 < 128
    brace before =
        let stops = prefix_len_stops is_plain bytes 0 (omega arith) in
        let here : is_plain (get_or bytes count 0) ≡ false = rw e stops in
        grind (arith, nat_tests)
