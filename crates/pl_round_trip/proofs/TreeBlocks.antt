-- Rows of a block's entries, and what may stand behind them.
use Rattle.std.proofs.Common.{◌≡◌, ℕ, ◌+◌, ◌<◌, ◌≤◌, Bool, true, Ok, List, [], ◌∷◌, ◌++◌, length}
use Rattle.std.proofs.Common.{refl, ap, ap₂, sym, ◌∙◌, append_assoc, arith}
use Rattle.std.proofs.lemmas.List.{append-nil}
use Rattle.pl_base.specs.declared.place.FileKey.{FileKey}
use Rattle.pl_base.specs.declared.node.Node.{Node}
use Rattle.pl_line.specs.Rows.{Row, row_at}
use Rattle.pl_yaml.specs.Reading.{Read}
use Rattle.pl_yaml.specs.Content.{content, lead}
use Rattle.pl_printing.specs.Printed.{Line, Written, inline, below, indented, entry}
use Rattle.pl_round_trip.specs.Trees.{without_places}
use Rattle.pl_round_trip.proofs.Rows.{is_clean, row_of_line}
use Rattle.pl_round_trip.proofs.TreeRows.{row_from, IsFront, front_content, shifted, laid}
use Rattle.pl_round_trip.proofs.TreeRows.{laid_indented, laid_append}
use Rattle.pl_round_trip.proofs.TreeInline.{node_held, ReadsInline}

-- ---- what may stand behind a block: nothing, or a row before its column

abbrev pub IsBefore : ℕ → List Row → Type 0
IsBefore column [] = Unit {0}
IsBefore column (row ∷ rows) = row.column < column

abbrev pub Ends : ℕ → List Row → Type 0
Ends column rows = (left : List Row) × (content rows ≡ Ok left) × (content left ≡ Ok left) ×
    IsBefore column left

pub before_more :
    (column more : ℕ) (rows : List Row) → column ≤ more → IsBefore column rows → IsBefore more rows
before_more column more [] le before = tt
before_more column more (row ∷ rows) le before = omega arith

-- ---- how a node reads

-- a node was read that is this one up to places, and the same lines with content are left
abbrev pub ReadsOver : FileKey → Node → Read Node → List Row → Type 0
ReadsOver file tree read rest = (made : Node) × (after : List Row) × (read ≡ Ok (made, after)) ×
    (content after ≡ content rest) × (without_places file made ≡ without_places file tree)

-- lines are read as a node, wherever they stand in a block that ends before them
abbrev pub ReadsBelow : FileKey → ℕ → Node → List Line → Type 0
ReadsBelow file depth tree lines =
    ((number more line at parent : ℕ) (own : Bool) (rest : List Row) → parent < 1 + more →
    Ends (1 + more) rest →
    ReadsOver file tree (node_held file depth line at parent own (laid number more lines ++
    rest)) rest)
    × ((number more : ℕ) (rest : List Row) → lead (laid number more lines ++ rest) ≡
    Ok (laid number more lines ++ rest))

abbrev pub Reads : FileKey → ℕ → Node → Written → Type 0
Reads file depth tree (inline text) = ReadsInline file depth tree text
Reads file depth tree (below lines) = ReadsBelow file depth tree lines

-- ---- the rows of an entry: its mark's, and those below

-- what stands on the mark's line behind the mark
abbrev pub behind_mark : Written → List ℕ
behind_mark (inline text) = 32 ∷ text
behind_mark (below lines) = []

abbrev pub rows_below : ℕ → ℕ → Written → List Row
rows_below number more (inline text) = []
rows_below number more (below lines) = laid (number + 1) (more + 2) lines

-- the number of the row behind them
abbrev pub number_behind : ℕ → Written → ℕ
number_behind number (inline text) = number + 1
number_behind number (below lines) = number + 1 + length (indented lines)

abbrev pub mark_row : ℕ → ℕ → Line → Written → Row
mark_row number more mark node = row_from number (1 + more) (mark ++ behind_mark node)

line_laid :
    (number more c : ℕ) (cs : List ℕ) → (c ≡ 32 → ⊥) → is_clean (c ∷ cs) ≡ true →
    shifted more (row_at number (c ∷ cs)) ≡ row_from number (1 + more) (c ∷ cs)
line_laid number more c cs other clean = ap (shifted more) (row_of_line number 0 c cs other clean)

-- an entry before others
pub entry_laid :
    (number more c : ℕ) (cs : List ℕ) (node : Written) (lines : List Line) (rest : List Row) →
    (c ≡ 32 → ⊥) → is_clean (c ∷ cs ++ behind_mark node) ≡ true
    → laid number more (entry (c ∷ cs) node ++ lines) ++ rest ≡ mark_row number more (c ∷ cs) node ∷
    (rows_below number more node ++ (laid (number_behind number node) more lines ++ rest))
entry_laid number more c cs (inline text) lines rest other clean =
    ap (λ row. row ∷ (laid (number + 1) more lines ++ rest))
    (line_laid number more c (cs ++ 32 ∷ text) other clean)
entry_laid number more c cs (below inner) lines rest other clean =
    ap₂ (λ row rows. row ∷ rows)
    (line_laid number more c cs other (ap (λ xs. is_clean (c ∷ xs)) (sym (append-nil cs)) ∙ clean) ∙
    ap (λ xs. row_from number (1 + more) (c ∷ xs)) (sym (append-nil cs)))
    (ap (λ rows. rows ++ rest) (laid_append (number + 1) more (indented inner) lines ∙
    ap (λ rows. rows ++ laid (number + 1 + length (indented inner)) more lines)
    (laid_indented (number + 1) more inner))
    ∙ append_assoc (laid (number + 1) (more + 2) inner) (laid (number + 1 + length (indented inner))
    more lines) rest)

pub clean_behind :
    (file : FileKey) (depth : ℕ) (tree : Node) (node : Written) → Reads file depth tree node →
    is_clean (behind_mark node) ≡ true
clean_behind file depth tree (inline text) reads = reads.1
clean_behind file depth tree (below lines) reads = refl

-- behind an entry of a block its next one may stand, or what stands behind the block
pub ends_mark :
    (number more column : ℕ) (text : List ℕ) (rows : List Row) → IsFront text → 1 + more < column →
    Ends column (row_from number (1 + more) text ∷ rows)
ends_mark number more column text rows front deeper = (
  row_from number (1 + more) text ∷ rows,
  front_content number (1 + more) text rows front,
  front_content number (1 + more) text rows
      front,
  deeper,
)

pub ends_more :
    (column more : ℕ) (rows : List Row) → column ≤ more → Ends column rows → Ends more rows
ends_more column more rows le ends =
    (ends.0, ends.1, ends.2, before_more column more ends.0 le ends.3)

-- an entry has a line
pub entry_some : (mark : Line) (node : Written) → 1 ≤ length (entry mark node)
entry_some mark (inline text) = omega arith
entry_some mark (below lines) = omega arith
