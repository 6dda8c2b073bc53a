-- Rows before a line feed, and behind it.
use Rattle.std.proofs.Common.{◌≡◌, ℕ, ◌+◌, ◌<◌, true, false, cond, List, [], ◌∷◌, ◌++◌, length}
use Rattle.std.proofs.Common.{refl, ap, sym, ◌∙◌, arith}
use Rattle.std.specs.Prelude.{◌==◌}
use Rattle.std.specs.List.{onto_first}
use Rattle.pl_line.specs.Rows.{Row, row_at, rows_from, rows_of, without_return, without_mark}
use Rattle.pl_yaml.specs.Reading.{has_row}
use Rattle.pl_yaml_laws.proofs.Breaks.{cut, cut_some}

-- the rows of lines that all end with a break
abbrev pub broken_from : ℕ → List (List ℕ) → List Row
broken_from number [] = []
broken_from number (line ∷ lines) =
    row_at number (without_return line) ∷ broken_from (number + 1) lines

cut_at : (front rest : List ℕ) → cut (front ++ 10 ∷ rest) ≡ cut front ++ cut rest
cut_at [] rest = refl
cut_at (c ∷ cs) rest =
    elim (c == 10) as
    (λ b. cond b ([] ∷ cut (cs ++ 10 ∷ rest)) (onto_first c (cut (cs ++ 10 ∷ rest)))
    ≡ cond b ([] ∷ cut cs) (onto_first c (cut cs)) ++ cut rest) [
      | true ↦ ap (λ lines. [] ∷ lines) (cut_at cs rest)
      | false ↦ ap (onto_first c) (cut_at cs rest) ∙ onto (cut cs) (cut_some cs)
    ]
  where
    onto : (lines : List (List ℕ)) → 0 < length lines
        → onto_first c (lines ++ cut rest) ≡ onto_first c lines ++ cut rest
    onto [] some = absurd (omega arith)
    onto (line ∷ lines) some = refl

rows_split : (number : ℕ) (lines more : List (List ℕ)) → 0 < length more
    → rows_from number (lines ++ more) ≡ broken_from number lines
    ++ rows_from (number + length lines) more
rows_split number [] more some = let same : number ≡ number + 0 = omega arith in
    ap (λ n. rows_from n more) same
rows_split number (line ∷ []) [] some = absurd (omega arith)
rows_split number (line ∷ []) (next ∷ more) some = refl
rows_split number (line ∷ (next ∷ lines)) more some =
    let same : number + 1 + length (next ∷ lines) ≡ number + length (line ∷ next ∷ lines) =
    omega arith in
    ap (λ rows. row_at number (without_return line) ∷ rows)
    (rows_split (number + 1) (next ∷ lines) more some)
    ∙ ap (λ n. broken_from number (line ∷ next ∷ lines) ++ rows_from n more) same

pub rows_length : (number : ℕ) (lines : List (List ℕ))
    → length (rows_from number lines) ≡ length lines
rows_length number [] = refl
rows_length number (line ∷ []) = refl
rows_length number (line ∷ (next ∷ lines)) = let more = rows_length (number + 1) (next ∷ lines) in
    omega (arith, more)

pub rows_some : (number : ℕ) (lines : List (List ℕ)) → 0 < length lines
    → has_row (rows_from number lines) ≡ true
rows_some number [] some = absurd (omega arith)
rows_some number (line ∷ []) some = refl
rows_some number (line ∷ (next ∷ lines)) some = refl

mark_first : (front rest : List ℕ)
    → without_mark (front ++ 10 ∷ rest) ≡ without_mark front ++ 10 ∷ rest
mark_first [] rest = refl
mark_first (c ∷ cs) rest =
    elim (c == 0xfeff) as
    (λ b. cond b (cs ++ 10 ∷ rest) (c ∷ (cs ++ 10 ∷ rest)) ≡ cond b cs (c ∷ cs) ++ 10
    ∷ rest) [ true ↦ refl | false ↦ refl ]

abbrev pub rows_before : List ℕ → List Row
rows_before front = broken_from 1 (cut (without_mark front))

abbrev pub rows_behind : List ℕ → List ℕ → List Row
rows_behind front rest = rows_from (1 + length (rows_of front)) (cut rest)

pub front_rows : (front rest : List ℕ)
    → rows_of (front ++ 10 ∷ rest) ≡ rows_before front ++ rows_behind front rest
front_rows front rest =
    let lines : List (List ℕ) = cut (without_mark front) in
    ap (λ text. rows_from 1 (cut text)) (mark_first front rest)
    ∙ ap (rows_from 1) (cut_at (without_mark front) rest)
    ∙ rows_split 1 lines (cut rest) (cut_some rest)
    ∙ ap (λ n. broken_from 1 lines ++ rows_from (1 + n) (cut rest)) (sym (rows_length 1 lines))
