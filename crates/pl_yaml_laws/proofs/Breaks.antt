-- Line feeds, with carriage returns before them or without.
use Rattle.std.proofs.Common.{◌≡◌, ℕ, suc, ◌+◌, ◌-◌, ◌<◌, ◌≤◌, true, false, ◌&&◌, cond, Some, List}
use Rattle.std.proofs.Common.{[], ◌∷◌, length, take, refl, ap, sym, ◌∙◌, arith, inl, inr}
use Rattle.std.specs.Prelude.{◌==◌, encode_utf8_all}
use Rattle.std.specs.Char.{encode_utf8}
use Rattle.std.specs.Str.{all_scalars}
use Rattle.std.specs.List.{slice_split, onto_first, last_or}
use Rattle.std.proofs.lemmas.Bool.{cases_Bool, and_parts, and_from}
use Rattle.std.proofs.lemmas.Bool.Decides.{nat_tests}
use Rattle.std.proofs.lemmas.List.{length-append}
use Rattle.pl_line.specs.Rows.{Row, row_at, rows_from, rows_of, without_return, is_return}
use Rattle.pl_line.specs.Rows.{without_mark}
use Rattle.pl_reading.specs.Bytes.{begins_with}
use Rattle.pl_yaml_laws.specs.Texts.{IsText}
use Rattle.pl_yaml_laws.specs.Breaks.{with_line_feeds, LineBreaksAreAlike}
use Rattle.pl_yaml_laws.proofs.Texts.{same_rows}

-- ---- lines without the carriage returns before their breaks

abbrev pub cut : List ℕ → List (List ℕ)
cut text = slice_split (λ c. c == 10) text

abbrev stripped : List (List ℕ) → List (List ℕ)
stripped [] = []
stripped (line ∷ []) = line ∷ []
stripped (line ∷ (next ∷ lines)) = without_return line ∷ stripped (next ∷ lines)

abbrev as_rows : ℕ → List (List ℕ) → List Row
as_rows number [] = []
as_rows number (line ∷ lines) = row_at number line ∷ as_rows (number + 1) lines

rows_are : (number : ℕ) (lines : List (List ℕ))
    → rows_from number lines ≡ as_rows number (stripped lines)
rows_are number [] = refl
rows_are number (line ∷ []) = refl
rows_are number (line ∷ (next ∷ lines)) =
    ap (λ rows. row_at number (without_return line) ∷ rows) (rows_are (number + 1) (next ∷ lines))

-- an empty line before others
strip_empty : (lines : List (List ℕ)) → stripped ([] ∷ lines) ≡ [] ∷ stripped lines
strip_empty [] = refl
strip_empty (line ∷ lines) = refl

-- a character that isn't the last of its line
without_more : (c d : ℕ) (line : List ℕ)
    → without_return (c ∷ d ∷ line) ≡ c ∷ without_return (d ∷ line)
without_more c d line =
    let all : suc (suc (length line)) - 1 ≡ suc (length line) = omega arith in
    let most : suc (length line) - 1 ≡ length line = omega arith in
    elim (is_return (last_or (Some d) line)) as
    (λ b. cond b (take (suc (suc (length line)) - 1) (c ∷ d ∷ line)) (c ∷ d ∷ line) ≡ c
    ∷ cond b (take (suc (length line) - 1) (d ∷ line)) (d ∷ line)) [
      | true ↦ ap (λ n. take n (c ∷ d ∷ line)) all ∙ sym (ap (λ n. c ∷ take n (d ∷ line)) most)
      | false ↦ refl
    ]

strip_more : (c d : ℕ) (lines : List (List ℕ))
    → stripped (onto_first c (onto_first d lines)) ≡ onto_first c (stripped (onto_first d lines))
strip_more c d [] = refl
strip_more c d (line ∷ []) = refl
strip_more c d (line ∷ (next ∷ lines)) =
    ap (λ l. l ∷ stripped (next ∷ lines)) (without_more c d line)

strip_other : (c : ℕ) (lines : List (List ℕ)) → (c == 13) ≡ false
    → stripped (onto_first c lines) ≡ onto_first c (stripped lines)
strip_other c [] other = refl
strip_other c (line ∷ []) other = refl
strip_other c ([] ∷ (next ∷ lines)) other = rw other refl
strip_other c ((d ∷ line) ∷ (next ∷ lines)) other = strip_more c d (line ∷ (next ∷ lines))

-- a carriage return alone before others
strip_return : (c : ℕ) (lines : List (List ℕ)) → (c == 13) ≡ true → 0 < length lines
    → stripped ((c ∷ []) ∷ lines) ≡ stripped ([] ∷ lines)
strip_return c [] is some = absurd (omega arith)
strip_return c (line ∷ lines) is some = rw is refl

pub cut_some : (text : List ℕ) → 0 < length (cut text)
cut_some [] = omega arith
cut_some (c ∷ cs) =
    elim (c == 10) as
    (λ b. 0 < length (cond b ([] ∷ cut cs) (onto_first c (cut cs)))) [
      | true ↦ omega arith
      | false ↦
          onto_some c (cut cs)
    ]
  where
    onto_some : (c : ℕ) (lines : List (List ℕ)) → 0 < length (onto_first c lines)
    onto_some c [] = omega arith
    onto_some c (line ∷ lines) = omega arith

no_break : (c : ℕ) → (c == 13) ≡ true → (c == 10) ≡ false
no_break c is = grind (arith, nat_tests)

no_return : (c : ℕ) → (c == 10) ≡ true → (c == 13) ≡ false
no_return c is = grind (arith, nat_tests)

-- a text's lines so are those of the text without the carriage returns
stripped_is : (text : List ℕ) → stripped (cut text) ≡ cut (with_line_feeds text)
stripped_is [] = refl
stripped_is (c ∷ []) =
    elim (cases_Bool (c == 13)) [
      | inl is ↦ rw (is, no_break c is) refl
      | inr isnt ↦
          rw isnt (elim (c == 10) as
          (λ b. stripped (cond b ([] ∷ [] ∷ []) ((c ∷ []) ∷ []))
          ≡ cond b ([] ∷ [] ∷ []) ((c ∷ []) ∷ [])) [ true ↦ refl | false ↦ refl ])
    ]
stripped_is (c ∷ (d ∷ cs)) =
    elim (cases_Bool (c == 13)) [
      | inl is ↦ returned c d cs is (stripped_is (d ∷ cs))
      | inr isnt ↦ other c (d ∷ cs) isnt (stripped_is (d ∷ cs))
    ]
  where
    other : (c : ℕ) (cs : List ℕ) → (c == 13) ≡ false → stripped (cut cs) ≡ cut (with_line_feeds cs)
        → stripped (cut (c ∷ cs)) ≡ cut (with_line_feeds (c ∷ cs))
    other c cs isnt more =
        rw isnt (elim (c == 10) as
        (λ b. stripped (cond b ([] ∷ cut cs) (onto_first c (cut cs)))
        ≡ cond b ([] ∷ cut (with_line_feeds cs)) (onto_first c (cut (with_line_feeds cs)))) [
          | true ↦ strip_empty (cut cs) ∙ ap (λ lines. [] ∷ lines) more
          | false ↦ strip_other c (cut cs) isnt ∙ ap (onto_first c) more
        ])

    returned : (c d : ℕ) (cs : List ℕ) → (c == 13) ≡ true
        → stripped (cut (d ∷ cs)) ≡ cut (with_line_feeds (d ∷ cs))
        → stripped (cut (c ∷ d ∷ cs)) ≡ cut (with_line_feeds (c ∷ d ∷ cs))
    returned c d cs is more =
        let first : cut (c ∷ d ∷ cs) ≡ onto_first c (cut (d ∷ cs)) = rw (no_break c is) refl in
        elim (cases_Bool (d == 10)) [
          | inl feed ↦
              let second : cut (d ∷ cs) ≡ [] ∷ cut cs = rw feed refl in
              let left : with_line_feeds (c ∷ d ∷ cs) ≡ with_line_feeds (d ∷ cs) =
              rw (is, feed) refl in
              ap stripped first ∙ ap (λ lines. stripped (onto_first c lines)) second
              ∙ strip_return c (cut cs) is (cut_some cs)
              ∙ ap stripped (sym second) ∙ more ∙ ap cut (sym left)
          | inr no_feed ↦
              let second : cut (d ∷ cs) ≡ onto_first d (cut cs) = rw no_feed refl in
              let left : with_line_feeds (c ∷ d ∷ cs) ≡ c ∷ with_line_feeds (d ∷ cs) =
              rw (is, no_feed) refl in
              let third : cut (c ∷ with_line_feeds (d ∷ cs))
              ≡ onto_first c (cut (with_line_feeds (d ∷ cs))) = rw (no_break c is) refl in
              ap stripped first ∙ ap (λ lines. stripped (onto_first c lines)) second
              ∙ strip_more c d (cut cs)
              ∙ ap (λ lines. onto_first c (stripped lines)) (sym second) ∙ ap (onto_first c) more
              ∙ sym third ∙ ap cut (sym left)
        ]

no_mark : (cs : List ℕ) → begins_with 10 cs ≡ true
    → with_line_feeds cs ≡ without_mark (with_line_feeds cs)
no_mark [] feed = refl
no_mark (d ∷ cs) feed = let mark : (d == 0xfeff) ≡ false = other d feed in
    rw (no_return d feed, mark) refl
  where
    other : (d : ℕ) → (d == 10) ≡ true → (d == 0xfeff) ≡ false
    other d feed = grind (arith, nat_tests)

mark_is : (text : List ℕ)
    → with_line_feeds (without_mark text) ≡ without_mark (with_line_feeds text)
mark_is [] = refl
mark_is (c ∷ cs) =
    elim (cases_Bool (c == 0xfeff)) [
      | inl is ↦ rw (is, other c is, is) refl
      | inr isnt ↦ rw isnt (unmarked c cs isnt)
    ]
  where
    other : (c : ℕ) → (c == 0xfeff) ≡ true → (c == 13) ≡ false
    other c is = grind (arith, nat_tests)

    unmarked : (c : ℕ) (cs : List ℕ) → (c == 0xfeff) ≡ false
        → with_line_feeds (c ∷ cs) ≡ without_mark (with_line_feeds (c ∷ cs))
    unmarked c cs isnt =
        elim (cases_Bool (c == 13 && begins_with 10 cs)) [
          | inl both ↦ rw both (no_mark cs (and_parts (c == 13) (begins_with 10 cs) both).1)
          | inr neither ↦ rw (neither, isnt) refl
        ]

-- a text's rows are those of its lines so
rows_is : (text : List ℕ) → rows_of text ≡ as_rows 1 (cut (without_mark (with_line_feeds text)))
rows_is text =
    rows_are 1 (cut (without_mark text))
    ∙ (ap (as_rows 1) (stripped_is (without_mark text))
    ∙ ap (λ cs. as_rows 1 (cut cs)) (mark_is text))

rows_alike : (text : List ℕ) → with_line_feeds (with_line_feeds text) ≡ with_line_feeds text
    → rows_of text ≡ rows_of (with_line_feeds text)
rows_alike text once = rows_is text
    ∙ (ap (λ cs. as_rows 1 (cut (without_mark cs))) (sym once)
    ∙ sym (rows_is (with_line_feeds text)))

scalars_too : (text : List ℕ) → all_scalars text ≡ true → all_scalars (with_line_feeds text) ≡ true
scalars_too [] all = refl
scalars_too (c ∷ cs) all =
    let parts = and_parts _ (all_scalars cs) all in
    elim (c == 13 && begins_with 10 cs) as
    (λ b. all_scalars (cond b (with_line_feeds cs) (c ∷ with_line_feeds cs)) ≡ true) [
      | true ↦ scalars_too cs parts.1
      | false ↦ and_from _ _ parts.0 (scalars_too cs parts.1)
    ]

no_longer : (text : List ℕ)
    → length (encode_utf8_all (with_line_feeds text)) ≤ length (encode_utf8_all text)
no_longer [] = omega arith
no_longer (c ∷ cs) =
    let whole = length-append (encode_utf8 c) (encode_utf8_all cs) in
    let more = no_longer cs in
    elim (c == 13 && begins_with 10 cs) as
    (λ b. length
    (encode_utf8_all (cond b (with_line_feeds cs) (c ∷ with_line_feeds cs))) ≤ length
    (encode_utf8_all (c ∷ cs))) [
      | true ↦ omega (arith, whole, more)
      | false ↦
          omega (
            arith,
            whole,
            more,
            length-append (encode_utf8 c) (encode_utf8_all (with_line_feeds cs)),
          )
    ]

shorter : (text : List ℕ) → IsText text → IsText (with_line_feeds text)
shorter text is = (scalars_too text is.0, omega (arith, no_longer text, is.1))

pub line_breaks_are_alike : LineBreaksAreAlike
line_breaks_are_alike file text is once =
    same_rows file text (with_line_feeds text) is (shorter text is) (rows_alike text once)
