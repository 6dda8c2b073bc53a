-- Characters that no text may have, and a line's break among them.
use Rattle.std.proofs.Common.{◌≡◌, ℕ, zero, suc, ◌+◌, ◌-◌, ◌<◌, ◌≤◌, true, false, ◌&&◌, not, cond}
use Rattle.std.proofs.Common.{List, [], ◌∷◌, Option, Some, None, length, take, drop, refl, sym, ap}
use Rattle.std.proofs.Common.{subst, ◌∙◌, inl, inr, arith}
use Rattle.std.specs.Prelude.{◌==◌}
use Rattle.std.specs.List.{slice_split, position_or_len, last_or}
use Rattle.std.proofs.lemmas.Bool.{cases_Bool}
use Rattle.std.proofs.lemmas.Bool.Decides.{nat_tests}
use Rattle.std.proofs.lemmas.List.{take_all, take-take, length-take-le, length-drop}
use Rattle.pl_line.proofs.Laws.Scanning.{position_or_len_le}
use Rattle.pl_line.proofs.Laws.Cuts.{cut_found, cut_last}
use Rattle.pl_line.specs.Rows.{is_control, is_return, without_return}
use Rattle.pl_line.specs.Lines.{IsRead}

abbrev first : List ℕ → ℕ
first xs = position_or_len is_control xs

abbrev feed : List ℕ → ℕ
feed xs = position_or_len (λ c. c == 10) xs

no_feed : (c : ℕ) → is_control c ≡ false → (c == 10) ≡ false
no_feed c other = elim (cases_Bool (c == 10)) [
  | inl ten ↦ grind (arith, nat_tests, ten, other)
  | inr
      none ↦ none
]

no_return : (c : ℕ) → is_control c ≡ false → (c == 13) ≡ false
no_return c other = elim (cases_Bool (c == 13)) [
  | inl ten ↦ grind (arith, nat_tests, ten, other)
  | inr none ↦ none
]

-- the first one stands in each front that goes so far
first_within : (xs : List ℕ) (m : ℕ) → first xs ≤ m → first (take m xs) ≡ first xs
first_within [] zero most = refl
first_within [] (suc m) most = refl
first_within (x ∷ xs) zero most = omega (arith, most)
first_within (x ∷ xs) (suc m) most =
    elim (cases_Bool (is_control x)) [
      | inl here ↦ ap (λ b. cond (not b) (1 + first (take m xs)) 0) here ∙
          sym (ap (λ b. cond (not b) (1 + first xs) 0) here)
      | inr other ↦
          let one : first (x ∷ xs) ≡ 1 + first xs = ap (λ b. cond (not b) (1 + first xs) 0) other in
          ap (λ b. cond (not b) (1 + first (take m xs)) 0) other ∙
          ap (λ n. 1 + n) (first_within xs m (omega (arith, most, one))) ∙ sym one
    ]

-- a line feed is one of them
pub feed_behind : (xs : List ℕ) → first xs + feed (drop (first xs) xs) ≡ feed xs
feed_behind [] = refl
feed_behind (x ∷ xs) =
    elim (cases_Bool (is_control x)) [
      | inl here ↦
          let none : first (x ∷ xs) ≡ 0 = ap (λ b. cond (not b) (1 + first xs) 0) here in
          ap (λ n. n + feed (drop n (x ∷ xs))) none ∙ omega arith
      | inr other ↦
          let one : first (x ∷ xs) ≡ suc (first xs) = ap (λ b. cond (not b) (1 + first xs) 0)
          other ∙ omega arith in
          let next : feed (x ∷ xs) ≡ 1 + feed xs = ap (λ b. cond (not b) (1 + feed xs) 0)
          (no_feed x other) in
          let rest : first xs + feed (drop (first xs) xs) ≡ feed xs = feed_behind xs in
          ap (λ n. n + feed (drop n (x ∷ xs))) one ∙ omega (arith, rest, next)
    ]

-- a line without them ends with no carriage return
last_plain :
    (o : Option ℕ) (line : List ℕ) → is_return o ≡ false → first line ≡ length line →
    is_return (last_or o line) ≡ false
last_plain o [] none all = none
last_plain o (x ∷ xs) none all =
    elim (cases_Bool (is_control x)) [
      | inl here ↦ let at_once : first (x ∷ xs) ≡ 0 = ap (λ b. cond (not b) (1 + first xs) 0)
          here in absurd (omega (arith, at_once, all))
      | inr other ↦
          let one : first (x ∷ xs) ≡ 1 + first xs = ap (λ b. cond (not b) (1 + first xs) 0) other in
          last_plain (Some x) xs (no_return x other) (omega (arith, one, all))
    ]

same_test : (n m : ℕ) → n ≡ m → true ≡ (n == m)
same_test n m is = grind (arith, nat_tests, is)

less_test :
    (size n place len : ℕ) → n < size → place ≡ n → len ≡ size - 1 →
    (size == n + 1) ≡ (place == len)
less_test size n place len within at is = grind (arith, nat_tests, within, at, is)

front_of_front : (n m : ℕ) (xs : List ℕ) → n ≤ m → take n (take m xs) ≡ take n xs
front_of_front n m xs less = take-take n m xs less

-- a line without them is read whole
pub reads_whole : (line : List ℕ) → first line ≡ length line → IsRead line line true
reads_whole line all = (
  sym (take_all (first line) line (omega (arith, all))),
  same_test (first line) (length line) all,
)

pub reads_unbroken :
    (line : List ℕ) → first line ≡ length line → IsRead (without_return line) line true
reads_unbroken line all =
    let same : without_return line ≡ line = ap (λ b. cond b (take (length line - 1) line) line)
    (last_plain None line refl all) in
    subst (λ l. IsRead l line true) (sym same) (reads_whole line all)

-- a line with such a character, behind so many
module _ (line : List ℕ) (n : ℕ) (place : first line ≡ n) (within : n < length line) where
  pub reads_part : IsRead line (take n line) false
  reads_part = (ap (λ k. take k line) (sym place), grind (arith, nat_tests, place, within))

  pub reads_returned : IsRead (without_return line) (take n line) (is_return (last_or None line) &&
      (length line == n + 1))
  reads_returned =
      elim (cases_Bool (is_return (last_or None line))) [
        | inl here ↦
            let same : without_return line ≡ take (length line - 1) line =
            ap (λ b. cond b (take (length line - 1) line) line) here in
            let kept : first (take (length line - 1) line) ≡ n = first_within line (length line - 1)
            (omega (arith, place, within)) ∙ place in
            let size : length (take (length line - 1) line) ≡ length line - 1 =
            length-take-le (length line - 1) line (omega arith) in
            subst (λ l. IsRead l (take n line) (is_return (last_or None line) &&
            (length line == n + 1))) (sym same) (
              sym (ap (λ k. take k (take (length line - 1) line)) kept ∙
                  front_of_front n (length line - 1) line (omega (arith, within))),
              ap (λ b. b && (length line == n + 1)) here ∙
                  less_test (length line) n (first (take (length line - 1) line))
                  (length (take (length line - 1) line)) within kept size,
            )
        | inr none ↦
            let same : without_return line ≡ line =
            ap (λ b. cond b (take (length line - 1) line) line) none in
            subst (λ l. IsRead l (take n line) (is_return (last_or None line) &&
            (length line == n + 1))) (sym same)
            (reads_part.0, ap (λ b. b && (length line == n + 1)) none ∙ reads_part.1)
      ]

-- the characters before the first of them, where a line ends there
module _ (text : List ℕ) (n : ℕ) (is : n ≡ first text) where
  pub most : n ≤ length text
  most = omega (arith, is, position_or_len_le is_control text)

  pub sizes : n + length (drop n text) ≡ length text
  sizes = omega (arith, most, length-drop n text)

  pub places : n + feed (drop n text) ≡ feed text
  places = ap (λ k. k + feed (drop k text)) is ∙ feed_behind text

  pub front_size : length (take n text) ≡ n
  front_size = length-take-le n text most

  plain : first (take n text) ≡ length (take n text)
  plain = first_within text n (omega (arith, is)) ∙ sym is ∙ sym front_size

  pub line_broken :
      (rest : List ℕ) → drop n text ≡ 10 ∷ rest →
      slice_split (λ c. c == 10) text ≡ take n text ∷ slice_split (λ c. c == 10) rest
  line_broken rest next = cut_found text (drop n text) n places sizes rest refl next

  pub line_last : drop n text ≡ [] → slice_split (λ c. c == 10) text ≡ take n text ∷ []
  line_last next = cut_last text (drop n text) n places sizes next

  pub broken_read : IsRead (without_return (take n text)) (take n text) true
  broken_read = reads_unbroken (take n text) plain

  pub last_read : IsRead (take n text) (take n text) true
  last_read = reads_whole (take n text) plain

  -- and where it goes on
  module _ (len : ℕ) (later : n < len) (fits : len ≤ length text) where
    line_size : length (take len text) ≡ len
    line_size = length-take-le len text fits

    line_place : first (take len text) ≡ n
    line_place = first_within text len (omega (arith, is, later)) ∙ sym is

    pub part_read : IsRead (take len text) (take n text) false
    part_read = subst (λ t. IsRead (take len text) t false)
        (front_of_front n len text (omega (arith, later))) (reads_part (take len text) n line_place
        (omega (arith, line_size, later)))

    pub returned_read : IsRead (without_return (take len text)) (take n text)
        (is_return (last_or None (take len text)) && (len == n + 1))
    returned_read =
        subst (λ k. IsRead (without_return (take len text)) (take n text)
        (is_return (last_or None (take len text)) && (k == n + 1))) line_size
        (subst (λ t. IsRead (without_return (take len text)) t
        (is_return (last_or None (take len text)) && (length (take len text) == n + 1)))
        (front_of_front n len text (omega (arith, later)))
        (reads_returned (take len text) n line_place (omega (arith, line_size, later))))

-- with a character taken off that is none of them
pub first_next :
    (text rest : List ℕ) (c len place : ℕ) → is_control c ≡ false → text ≡ c ∷ rest →
    len + first text ≡ place → len + 1 + first rest ≡ place
first_next text rest c len place other taken so_far =
    let one : first text ≡ 1 + first rest = ap first taken ∙
    ap (λ b. cond (not b) (1 + first rest) 0) other in
    omega (arith, so_far, one)
