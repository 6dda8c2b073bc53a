-- The rows of a text, line by line.
use Rattle.std.proofs.Common.{◌≡◌, ℕ, ◌+◌, List, [], ◌∷◌, Bool, false, length, refl, sym, ap, ap₂}
use Rattle.std.proofs.Common.{◌∙◌, arith}
use Rattle.std.specs.Prelude.{◌==◌}
use Rattle.std.specs.List.{slice_split}
use Rattle.std.proofs.lemmas.Bool.Decides.{nat_tests}
use Rattle.pl_line.specs.Rows.{Row, row_at, rows_from, without_return, indented}
use Rattle.pl_line.specs.Lines.{IsRead}
use Rattle.pl_line.proofs.Laws.Cuts.{slice_split-some}

-- a line before others
first_of :
    (number : ℕ) (line : List ℕ) (lines : List (List ℕ)) → (lines ≡ [] → ⊥) →
    rows_from number (line ∷ lines) ≡ row_at number (without_return line) ∷
    rows_from (number + 1) lines
first_of number line [] some = absurd (some refl)
first_of number line (next ∷ lines) some = refl

-- a text has a row
pub rows_left :
    (number : ℕ) (lines : List (List ℕ)) → (lines ≡ [] → ⊥) →
    false ≡ (length (rows_from number lines) == 0)
rows_left number [] some = absurd (some refl)
rows_left number (line ∷ []) some = refl
rows_left number (line ∷ (next ∷ lines)) some = grind (arith, nat_tests)

read_row :
    (number : ℕ) (line front : List ℕ) (whole : Bool) → IsRead line front whole →
    indented number front whole ≡ row_at number line
unfolding row_at
read_row number line front whole read = ap₂ (indented number) read.0 read.1

-- the row of a text's first line, where others follow and where none does
pub at_cut :
    (rows : List Row) (number : ℕ) (text line rest front : List ℕ) (whole : Bool) (made : Row) →
    rows_from number (slice_split (λ c. c == 10) text) ≡ rows
    → slice_split (λ c. c == 10) text ≡ line ∷ slice_split (λ c. c == 10) rest →
    IsRead (without_return line) front whole → made ≡ indented number front whole
    → rows ≡ made ∷ rows_from (number + 1) (slice_split (λ c. c == 10) rest)
at_cut rows number text line rest front whole made are cut read is =
    sym are
    ∙ ap (rows_from number) cut
    ∙ first_of number line (slice_split (λ c. c == 10) rest) (slice_split-some (λ c. c == 10) rest)
    ∙ ap (λ row. row ∷ rows_from (number + 1) (slice_split (λ c. c == 10) rest))
    (sym (is ∙ read_row number (without_return line) front whole read))

pub at_last :
    (rows : List Row) (number : ℕ) (text line front : List ℕ) (whole : Bool) (made : Row) →
    rows_from number (slice_split (λ c. c == 10) text) ≡ rows
    → slice_split (λ c. c == 10) text ≡ line ∷ [] → IsRead line front whole →
    made ≡ indented number front whole → rows ≡ made ∷ []
at_last rows number text line front whole made are last read is =
    sym are ∙ ap (rows_from number) last ∙
    ap (λ row. row ∷ []) (sym (is ∙ read_row number line front whole read))
