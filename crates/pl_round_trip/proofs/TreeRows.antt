-- Rows of printed lines, and what begins on them.
use Rattle.std.proofs.Common.{◌≡◌, ℕ, suc, ◌+◌, ◌≤◌, true, false, not, ◌==◌, Ok, List, [], ◌∷◌}
use Rattle.std.proofs.Common.{◌++◌, length, drop, refl, ap, ap₂, sym, ◌∙◌, add-zero, arith}
use Rattle.std.specs.List.{position_or_len}
use Rattle.std.proofs.lemmas.Bool.{ne_eqb, and_right}
use Rattle.pl_base.specs.declared.place.FileKey.{FileKey}
use Rattle.pl_base.specs.declared.node.NodeBody.TheVariants.{Seq, Map}
use Rattle.pl_line.specs.Rows.{Row, row_at, size}
use Rattle.pl_reading.specs.Bytes.{is_blank}
use Rattle.pl_line.specs.Left.{behind, is_done, spaces_only}
use Rattle.pl_line.specs.Trees.{node_at}
use Rattle.pl_line.specs.Flow as flows
use Rattle.pl_yaml.specs.Content.{content, lead}
use Rattle.pl_printing.specs.Printed.{Line, indented}
use Rattle.pl_round_trip.proofs.Rows.{is_clean, row_of_line, rows_behind, row_indented}

-- a row that goes to its line's end
abbrev pub row_from : ℕ → ℕ → List ℕ → Row
row_from number column text = record { number = number; column = column; text = text; whole = true }

-- ---- what begins a printed line: a dash alone, a dash and a space, a quote, an empty collection

pub data IsFront : List ℕ → Type 0 where
  dash : IsFront (45 ∷ [])
  dash_space : (text : List ℕ) → IsFront (45 ∷ 32 ∷ text)
  quote : (text : List ℕ) → IsFront (34 ∷ text)
  no_items : IsFront (91 ∷ 93 ∷ [])
  no_pairs : IsFront (123 ∷ 125 ∷ [])

pub suc_not_zero : (n : ℕ) → (suc n == 0) ≡ false
suc_not_zero n = ne_eqb (suc n) 0 (omega arith)

pub front_content :
    (number column : ℕ) (text : List ℕ) (rows : List Row) → IsFront text →
    content (row_from number column text ∷ rows) ≡ Ok (row_from number column text ∷ rows)
unfolding content behind
front_content number column text rows dash = refl
front_content number column text rows (dash_space more) = rw (suc_not_zero (suc (length more))) refl
front_content number column text rows (quote more) = rw (suc_not_zero (length more)) refl
front_content number column text rows no_items = refl
front_content number column text rows no_pairs = refl

pub front_lead :
    (number column : ℕ) (text : List ℕ) (rows : List Row) → IsFront text →
    lead (row_from number column text ∷ rows) ≡ Ok (row_from number column text ∷ rows)
unfolding lead behind
front_lead number column text rows dash = rw (and_right (column == 1) false refl) refl
front_lead number column text rows (dash_space more) =
    rw (suc_not_zero (suc (length more)), and_right (column == 1) false refl) refl
front_lead number column text rows (quote more) =
    rw (suc_not_zero (length more), and_right (column == 1) false refl) refl
front_lead number column text rows no_items = rw (and_right (column == 1) false refl) refl
front_lead number column text rows no_pairs = rw (and_right (column == 1) false refl) refl

-- an empty row is passed over
pub nothing_content : (number column : ℕ) → content (row_from number column [] ∷ []) ≡ Ok []
unfolding content behind
nothing_content number column = refl

-- ---- behind characters

pub behind_at :
    (n number column : ℕ) (text rest : List ℕ) → drop n text ≡ rest →
    position_or_len (λ c. not (is_blank c)) rest ≡ 0 →
    behind n (row_from number column text) ≡ row_from number (column + n) rest
unfolding behind
behind_at n number column text rest dropped none =
    let same : n + position_or_len (λ c. not (is_blank c)) (drop n text) ≡ n =
    ap (λ xs. n + position_or_len (λ c. not (is_blank c)) xs) dropped ∙ ap (λ k. n + k) none ∙
    add-zero n in
    ap (λ k. row_from number (column + k) (drop k text)) same ∙
    ap (λ xs. row_from number (column + n) xs) dropped

pub behind_space :
    (number column mark : ℕ) (text : List ℕ) → IsFront text →
    behind 1 (row_from number column (mark ∷ 32 ∷ text)) ≡ row_from number (column + 2) text
unfolding behind
behind_space number column mark text dash = refl
behind_space number column mark text (dash_space more) = refl
behind_space number column mark text (quote more) = refl
behind_space number column mark text no_items = refl
behind_space number column mark text no_pairs = refl

pub behind_mark :
    (number column mark : ℕ) →
    behind 1 (row_from number column (mark ∷ [])) ≡ row_from number (column + 1) []
unfolding behind
behind_mark number column mark = refl

pub front_more :
    (number column : ℕ) (text : List ℕ) → IsFront text →
    is_done (row_from number column text) ≡ false
front_more number column text dash = refl
front_more number column text (dash_space more) = rw (suc_not_zero (suc (length more))) refl
front_more number column text (quote more) = rw (suc_not_zero (length more)) refl
front_more number column text no_items = refl
front_more number column text no_pairs = refl

pub front_spaces :
    (number column : ℕ) (text : List ℕ) → IsFront text →
    spaces_only 1 (row_from number column (45 ∷ 32 ∷ text)) ≡ true
front_spaces number column text dash = refl
front_spaces number column text (dash_space more) = refl
front_spaces number column text (quote more) = refl
front_spaces number column text no_items = refl
front_spaces number column text no_pairs = refl

-- ---- empty collections

pub flow_no_items :
    (file : FileKey) (depth number column : ℕ) →
    flows.flow file (suc depth) (row_from number column (91 ∷ 93 ∷ [])) ≡
    Ok (node_at file (row_from number column (91 ∷ 93 ∷ [])) (Seq []), 2)
unfolding flows.flow flows.collection flows.inner flows.gathered flows.entries behind
flow_no_items file depth number column = refl

pub flow_no_pairs :
    (file : FileKey) (depth number column : ℕ) →
    flows.flow file (suc depth) (row_from number column (123 ∷ 125 ∷ [])) ≡
    Ok (node_at file (row_from number column (123 ∷ 125 ∷ [])) (Map []), 2)
unfolding flows.flow flows.collection flows.inner flows.gathered flows.entries behind
flow_no_pairs file depth number column = refl

-- ---- rows of lines

number_is : (number : ℕ) (line : List ℕ) → (row_at number line).number ≡ number
unfolding row_at
number_is number line = refl

pub row_of_front :
    (number : ℕ) (text : List ℕ) → IsFront text → is_clean text ≡ true →
    row_at number text ≡ row_from number 1 text
row_of_front number text dash clean = row_of_line number 0 45 [] (omega arith) clean
row_of_front number text (dash_space more) clean = row_of_line number 0 45 (32 ∷ more) (omega arith)
    clean
row_of_front number text (quote more) clean = row_of_line number 0 34 more (omega arith) clean
row_of_front number text no_items clean = row_of_line number 0 91 (93 ∷ []) (omega arith) clean
row_of_front number text no_pairs clean = row_of_line number 0 123 (125 ∷ []) (omega arith) clean

-- a row so many columns further right
abbrev pub shifted : ℕ → Row → Row
shifted more row = record {
  number = row.number;
  column = row.column + more;
  text =
      row.text;
  whole = row.whole;
}

-- the rows of lines, the first of which has this number, so many columns further right
abbrev pub laid : ℕ → ℕ → List Line → List Row
laid number more [] = []
laid number more (line ∷ lines) = shifted more (row_at number line) ∷ laid (number + 1) more lines

pub laid_indented :
    (number more : ℕ) (lines : List Line) →
    laid number more (indented lines) ≡ laid number (more + 2) lines
laid_indented number more [] = refl
laid_indented number more (line ∷ lines) = ap₂ (λ row rows. row ∷ rows) moved
    (laid_indented (number + 1) more lines)
  where
    moved : shifted more (row_at number (32 ∷ 32 ∷ line)) ≡ shifted (more + 2) (row_at number line)
    moved =
        let further : (row_at number line).column + 2 + more ≡
        (row_at number line).column + (more + 2) = omega arith in
        ap (shifted more) (row_indented number line)
        ∙ ap (λ column. record {
          number = number;
          column = column;
          text =
              (row_at number line).text;
          whole = (row_at number line).whole;
        }) further
        ∙ ap (λ n. record {
          number = n;
          column = (row_at number line).column + (more + 2);
          text =
              (row_at number line).text;
          whole = (row_at number line).whole;
        })
        (sym (number_is number line))

pub laid_append :
    (number more : ℕ) (front back : List Line) →
    laid number more (front ++ back) ≡ laid number more front ++ laid (number + length front) more
    back
laid_append number more [] back = ap (λ n. laid n more back) (sym (add-zero number))
laid_append number more (line ∷ front) back =
    let counted : number + 1 + length front ≡ number + length (line ∷ front) = omega arith in
    ap (λ rows. shifted more (row_at number line) ∷ rows) (laid_append (number + 1) more front
    back ∙ ap (λ n. laid (number + 1) more front ++ laid n more back) counted)

unmoved : (row : Row) → row ≡ shifted 0 row
unmoved row = ap (λ column. record {
  number = row.number;
  column = column;
  text = row.text;
  whole =
      row.whole;
}) (sym (add-zero row.column))

pub laid_behind :
    (number : ℕ) (lines : List Line) →
    rows_behind number lines ≡ laid number 0 lines ++ row_at (number + length lines) [] ∷ []
laid_behind number [] = ap (λ n. row_at n [] ∷ []) (sym (add-zero number))
laid_behind number (line ∷ lines) =
    let counted : number + 1 + length lines ≡ number + length (line ∷ lines) = omega arith in
    ap₂ (λ row rows. row ∷ rows) (unmoved (row_at number line)) (laid_behind (number + 1) lines ∙
    ap (λ n. laid (number + 1) 0 lines ++ row_at n [] ∷ []) counted)

pub row_nothing : (number : ℕ) → row_at number [] ≡ row_from number 1 []
unfolding row_at
row_nothing number = refl

-- there are at least as many turns as rows
pub size_laid :
    (number more : ℕ) (lines : List Line) (rest : List Row) →
    length lines ≤ size (laid number more lines ++ rest)
size_laid number more [] rest = omega arith
size_laid number more (line ∷ lines) rest = omega (arith, size_laid (number + 1) more lines rest)
