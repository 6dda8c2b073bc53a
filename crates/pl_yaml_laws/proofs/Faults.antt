-- The first fault of a text.
use Rattle.std.proofs.Common.{◌≡◌, ℕ, ◌+◌, ◌<◌, ◌≤◌, false, ◌&&◌, Result, Ok, Err, List, [], ◌∷◌}
use Rattle.std.proofs.Common.{◌++◌, length, refl, ap, sym, subst, ◌∙◌, arith, inl, inr}
use Rattle.std.specs.Prelude.{◌==◌}
use Rattle.std.proofs.lemmas.Bool.{both_ways, and_from, eq-eqb, or_parts}
use Rattle.pl_base.specs.declared.place.FileKey.{FileKey}
use Rattle.pl_base.specs.declared.place.Place.{Place}
use Rattle.pl_base.specs.declared.node.Node.{Node}
use Rattle.pl_line.specs.declared.code.YamlCode.{YamlCode}
use Rattle.pl_line.specs.declared.line_fault.Fault.{Fault}
use Rattle.pl_line.specs.Rows.{Row, row_at, rows_from, rows_of, without_mark}
use Rattle.pl_line.specs.Left.{is_bare}
use Rattle.pl_yaml.specs.Reading.{has_row}
use Rattle.pl_yaml.specs.Spells.{document, placed, refused}
use Rattle.pl_yaml_laws.specs.Faults.{is_blank_row, FaultsStandInTheText, FaultsAreFirst}
use Rattle.pl_yaml_laws.proofs.Breaks.{cut, cut_some}
use Rattle.pl_yaml_laws.proofs.Texts.{spelled_is}
use Rattle.pl_yaml_laws.proofs.Fronts.{rows_length, rows_some, rows_before, rows_behind, front_rows}
use Rattle.pl_yaml_laws.proofs.Told.{Told, Whatever}
use Rattle.pl_yaml_laws.proofs.ToldRows.{Each, document_told}
use Rattle.pl_yaml_laws.proofs.Agreeing.{Fits, Agree, document_agrees}

-- ---- numbers of rows

rows_between : (least number last : ℕ) (lines : List (List ℕ)) → least ≤ number
    → number + length lines ≤ last → Each (λ n. (least ≤ n) × (n < last)) (rows_from number lines)
unfolding row_at
rows_between least number last [] from within = tt
rows_between least number last (line ∷ []) from within = ((from, omega arith), tt)
rows_between least number last (line ∷ (next ∷ lines)) from within = (
  (from, omega arith),
  rows_between least (number + 1) last (next ∷ lines) (omega arith) (omega arith),
)

each_weaker : (P Q : ℕ → Type 0) → ((n : ℕ) → P n → Q n) → (rows : List Row) → Each P rows
    → Each Q rows
each_weaker P Q weaker [] all = tt
each_weaker P Q weaker (row ∷ rows) all =
    (weaker row.number all.0, each_weaker P Q weaker rows all.1)

-- another line
abbrev IsOther : ℕ → ℕ → Type 0
IsOther line n = n ≡ line → ⊥

fits_all : (line : ℕ) (one two rows more : List Row) → is_blank_row line (rows ++ more) ≡ false
    → Fits (IsOther line) one two rows
fits_all line one two [] more none = tt
fits_all line one two (row ∷ rows) more none =
    let parts =
    or_parts (row.number == line && is_bare row) (is_blank_row line (rows ++ more)) none in (
      (λ bare same. both_ways _ parts.0 (and_from _ _ (eq-eqb row.number line same) bare)),
      fits_all line one two rows more parts.1,
    )

-- ---- faults

-- the fault that is told
fault_of : (file : FileKey) (read : Result Node Fault) (code : YamlCode) (line column : ℕ)
    → placed file read ≡ refused file code line column
    → (fault : Fault) × (read ≡ Err fault) × (fault.line ≡ line)
fault_of file (Ok made) code line column is = absurd (cc)
fault_of file (Err fault) code line column is =
    let same : (fault.code, record { file = file; line = fault.line; col = fault.column })
    ≡ (code, record { file = file; line = line; col = column }) = cc in
    (fault, refl, ap (λ (told : YamlCode × Place). told.1.line) same)

pub faults_stand_in_the_text : FaultsStandInTheText
faults_stand_in_the_text file text code line column is refusal =
    let lines : List (List ℕ) = cut (without_mark text) in
    let fault =
    fault_of file (document file (rows_of text)) code line column
    (sym (spelled_is file text is) ∙ refusal) in
    let told =
    document_told (λ n. (1 ≤ n) × (n < 1 + length lines)) file (rows_of text)
    (rows_between 1 1 (1 + length lines) lines (omega arith) (omega arith)) in
    let on = (subst (Told (λ n. (1 ≤ n) × (n < 1 + length lines)) Whatever) fault.1 told).holds in
    let all = rows_length 1 lines in
    let same = fault.2 in
    (omega (arith, on.0, same), omega (arith, on.1, same, all))

pub faults_are_first : FaultsAreFirst
faults_are_first file front one two code line column is_one is_two before none refusal =
    let first : List Row = rows_behind front one in
    let second : List Row = rows_behind front two in
    let fits =
    fits_all line first second (rows_before front) (rows_behind front [])
    (ap (is_blank_row line) (sym (front_rows front [])) ∙ none) in
    let late : Each (IsOther line) first =
    each_weaker _ (IsOther line)
    (λ n behind same. let far = behind.0 in absurd (omega (arith, before, far, same))) first
    (rows_between (1 + length (rows_of front)) (1 + length (rows_of front))
    (1 + length (rows_of front) + length (cut one)) (cut one) (omega arith) (omega arith))
    in
    let both : has_row first ≡ has_row second =
    rows_some (1 + length (rows_of front)) (cut one) (cut_some one)
    ∙ sym (rows_some (1 + length (rows_of front)) (cut two) (cut_some two)) in
    let agree =
    document_agrees (IsOther line) first second late both file (rows_before front) fits in
    let told : placed file (document file (rows_before front ++ first))
    ≡ refused file code line column =
    sym (spelled_is file (front ++ 10 ∷ one) is_one
    ∙ ap (λ rows. placed file (document file rows)) (front_rows front one)) ∙ refusal in
    let fault = fault_of file (document file (rows_before front ++ first)) code line column told in
    elim (subst
    (λ read. Agree (IsOther line) first second (λ (made other : Node). Unit {0}) Whatever read
    (document file (rows_before front ++ second))) fault.1 agree).holds [
      | inl same ↦
          spelled_is file (front ++ 10 ∷ two) is_two
          ∙ ap (λ rows. placed file (document file rows)) (front_rows front two)
          ∙ ap (placed file) (same ∙ sym fault.1) ∙ told
      | inr other ↦ absurd (other fault.2)
    ]
