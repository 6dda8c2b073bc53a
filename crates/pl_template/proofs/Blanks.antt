-- A text may be cut behind blanks and before them.
use Rattle.std.proofs.Common.{◌≡◌, ℕ, ◌-◌, ◌<◌, ◌≤◌, true, false, List, length, IsUtf8}
use Rattle.std.proofs.Common.{IsCharBoundary, inl, inr, arith}
use Rattle.std.specs.List.{prefix_len}
use Rattle.std.proofs.lemmas.List.Sums.{prefix_len_passes, prefix_len_stops}
use Rattle.std.proofs.lemmas.Bool.{cases_lt}
use Rattle.std.proofs.lemmas.Bool.Decides.{nat_tests}
use Rattle.std.proofs.lemmas.Str.{IsCharBoundary-end, IsCharBoundary-before_ascii}
use Rattle.pl_texts.proofs.Bytes.{boundary_behind_ascii}
use Rattle.pl_template.specs.Words.{is_blank, is_in_word}

blank_is_ascii : (byte : ℕ) → is_blank byte ≡ true → byte < 128
blank_is_ascii byte blank = grind (arith, nat_tests)

other_is_ascii : (byte : ℕ) → is_in_word byte ≡ false → byte < 128
other_is_ascii byte blank = grind (arith, nat_tests)

pub behind_blanks : (text : List ℕ) (count : ℕ) → IsUtf8 text → count ≤ length text →
    count ≡ prefix_len is_blank text → IsCharBoundary text count
behind_blanks text count utf8 within e =
    boundary_behind_ascii text count utf8 within
    (λ some. blank_is_ascii _ (prefix_len_passes is_blank text (count - 1) 0 (omega arith)))

pub behind_word_boundary : (text : List ℕ) (count : ℕ) → count ≤ length text →
    count ≡ prefix_len is_in_word text → IsCharBoundary text count
behind_word_boundary text count within e =
    elim (cases_lt count (length text)) [
      | inl before ↦ IsCharBoundary-before_ascii text count before
          (other_is_ascii _ (rw e (prefix_len_stops is_in_word text 0 (omega arith))))
      | inr all ↦ let end : count ≡ length text = omega arith in rw end (IsCharBoundary-end text)
    ]
