-- Flow collections on one line (YAML 1.2.2, sections 5.3, 6.6, 7.3.3, 7.4.1 and 7.4.2).
use Rattle.std.specs.Prelude.{ℕ, zero, suc, ◌+◌, ◌-◌, ◌<◌, ◌≤◌, Bool, false, ◌==◌, ◌&&◌, ◌||◌, List}
use Rattle.std.specs.Prelude.{[], ◌∷◌, ◌++◌, length, Option, Some, None, Result, Ok, Err}
use Rattle.std.specs.Prelude.{if◌then◌else◌}
use Rattle.pl_base.specs.declared.place.FileKey.{FileKey}
use Rattle.pl_base.specs.declared.node.Node.{Node}
use Rattle.pl_base.specs.declared.node.NodeBody.{NodeBody}
use Rattle.pl_base.specs.declared.node.NodeBody.TheVariants.{Scalar, Seq, Map}
use Rattle.pl_base.specs.declared.node.NodePair.{NodePair}
use Rattle.pl_line.specs.declared.code.YamlCode.{YamlCode}
use Rattle.pl_line.specs.declared.code.YamlCode.TheVariants as codes_of
use Rattle.pl_line.specs.declared.line_fault.Fault.{Fault}
use Rattle.pl_line.specs.declared.flow_head.FlowHead.{FlowHead}
use Rattle.pl_line.specs.declared.flow_head.FlowHead.TheVariants as heads
use Rattle.pl_line.specs.Rows.{Row}
use Rattle.pl_reading.specs.Bytes.{is_blank, begins_with}
use Rattle.pl_line.specs.Reading.{fault_at}
use Rattle.pl_reading.specs.Steps.{◌>>=◌}
use Rattle.pl_line.specs.Left.{behind, end_code}
use Rattle.pl_line.specs.Scanning.{ends_word}
use Rattle.pl_line.specs.Quoted.{quoted}
use Rattle.pl_line.specs.Trees.{node_at, plain, is_doubled, pair_of}

-- `,`, `[`, `]`, `{` and `}`
abbrev pub is_flow_indicator : ℕ → Bool
is_flow_indicator c = c == 44 || c == 91 || c == 93 || c == 123 || c == 125

-- A plain scalar in a flow collection ends before those too, and else as in a block. How many of
-- these characters it takes, blanks at its end counted; and whether a blank stands before them.
abbrev pub flow_len : Bool → Bool → List ℕ → ℕ
flow_len whole blank [] = 0
flow_len whole blank (c ∷ cs) =
    if c == 58 && ends_word whole cs || (c == 35 && blank || is_flow_indicator c) then 0
    else 1 + flow_len whole (is_blank c) cs

-- `, ] } # | > % @` and the grave accent begin no node, nor do `-` and `:` as indicators
abbrev pub begins_none : ℕ → Bool
begins_none c = c == 44 || c == 93 || c == 125 || c == 35 || c == 124 || c == 62 || c == 37 ||
    c == 64 || c == 96

abbrev pub is_stray : Bool → ℕ → List ℕ → Bool
is_stray whole c cs = begins_none c || (c == 45 || c == 58) && ends_word whole cs

-- what begins with this character, these behind it
abbrev pub head_from : Bool → ℕ → List ℕ → FlowHead
head_from whole c cs =
    if c == 91 || c == 123 then heads.Collection
    else if c == 39 || c == 34 then heads.Quote
    else if c == 38 || c == 42 then heads.Anchor
    else if c == 33 then heads.Tag
    else if c == 63 && ends_word whole cs then heads.Question
    else if is_stray whole c cs then heads.Stray
    else heads.Plain (1 + flow_len whole false cs)

unfoldable pub head_at : Bool → List ℕ → FlowHead
head_at whole [] = heads.End
head_at whole (c ∷ cs) = head_from whole c cs

abbrev pub head_of : Row → FlowHead
head_of row = head_at row.whole row.text

-- a head takes no more than so many characters, and a bracket and a plain scalar take some
abbrev pub Spans : ℕ → FlowHead → Type 0
Spans most heads.Collection = 1 ≤ most
Spans most (heads.Plain n) = (0 < n) × (n ≤ most)
Spans most _ = Unit {0}

-- Text that can't stand at a row's column. Where nothing is left of the row, a collection isn't
-- closed on its line.
abbrev pub misplaced : Row → Fault
misplaced row = fault_at (if length row.text == 0 then end_code row.whole else codes_of.NoEntry) row

-- why nothing is read at such a head, where an entry of a sequence or a value begins
abbrev pub refusal : Bool → FlowHead → YamlCode
refusal whole heads.Anchor = codes_of.Anchor
refusal whole heads.Tag = codes_of.Tag
refusal whole heads.End = end_code whole
refusal whole _ = codes_of.NoEntry

-- Something that was read, and what is left of the row behind it and the blanks after it. A
-- collection leaves the row that begins with its closing bracket.
abbrev pub FlowRead : Type 0 → Type 0
FlowRead A = Result (A × Row) Fault

-- a plain or quoted scalar's text
unfoldable pub scalar_by : Row → FlowHead → FlowRead (List ℕ)
scalar_by row heads.Quote = quoted row >>= λ read. Ok (read.0, behind read.1 row)
scalar_by row (heads.Plain n) = Ok (plain n row, behind n row)
scalar_by row head = Err (fault_at (refusal row.whole head) row)

-- a node in a collection; `node` reads the collections that begin there
abbrev pub value_by : FileKey → (Row → FlowRead Node) → Row → FlowHead → FlowRead Node
value_by file node row heads.Collection = node row >>= λ read. Ok (read.0, behind 1 read.1)
value_by file node row head = scalar_by row head >>= λ read. Ok (
  node_at file row (Scalar read.0),
  read.1,
)

unfoldable pub value : FileKey → (Row → FlowRead Node) → Row → FlowRead Node
value file node row = value_by file node row (head_of row)

-- behind a key stands a `:`, which is passed over
unfoldable pub colon : Row → Result Row Fault
colon row = if begins_with 58 row.text then Ok (behind 1 row) else Err (misplaced row)

-- A key is a scalar before a `:`. A collection in its place is read through; then a `:` makes it a
-- key that is no scalar.
abbrev pub no_key : Row → Fault
no_key row = if begins_with 58 row.text then fault_at codes_of.ComplexKey row else misplaced row

abbrev pub key_by : (Row → FlowRead Node) → Row → FlowHead → FlowRead (List ℕ)
key_by node row heads.Collection = node row >>= λ read. Err (no_key (behind 1 read.1))
key_by node row heads.Question = Err (fault_at codes_of.ComplexKey row)
key_by node row head = scalar_by row head >>= λ read. colon read.1 >>= λ left. Ok (read.0, left)

unfoldable pub key : (Row → FlowRead Node) → Row → FlowRead (List ℕ)
key node row = key_by node row (head_of row)

-- the value of a key at that other row, empty before a comma and the closing bracket
unfoldable pub item : FileKey → (Row → FlowRead Node) → Row → Row → FlowRead Node
item file node at row = if begins_with 44 row.text || begins_with 125 row.text
    then Ok (node_at file at (Scalar []), row) else value file node row

-- an entry of a mapping, after those before it
unfoldable pub pair : FileKey → (Row → FlowRead Node) → List NodePair → Row → FlowRead NodePair
pair file node before row =
    key node row
    >>= λ key. if is_doubled key.0 before then Err (fault_at codes_of.DuplicateKey row)
    else (item file node row key.1 >>= λ read. Ok (pair_of file row key.0 read.0, read.1))

-- behind an entry stands a comma, which is passed over, or the closing bracket
unfoldable pub separated : ℕ → Row → Result Row Fault
separated close row =
    if begins_with 44 row.text then Ok (behind 1 row)
    else if begins_with close row.text then Ok row
    else Err (misplaced row)

-- Entries, each read by `one`, which knows those before it, up to the closing bracket. Each takes a
-- character, so there are no more of them than characters.
unfoldable pub entries :
    {A : Type 0} → ℕ → (List A → Row → FlowRead A) → ℕ → List A → Row → FlowRead (List A)
entries close one zero before row = Ok (before, row)
entries close one (suc turns) before row =
    if begins_with close row.text then Ok (before, row)
    else (one before row >>= λ next. separated close next.1 >>= λ left. entries close one turns
    (before ++ next.0 ∷ []) left)

-- the collection that a row begins with, made of its entries
unfoldable pub gathered :
    {A : Type 0} → FileKey → (List A → NodeBody) → ℕ → (List A → Row → FlowRead A) → Row →
    FlowRead Node
gathered file body close one row = entries close one (length row.text) [] (behind 1 row) >>=
    λ read. Ok (node_at file row (body read.0), read.1)

abbrev pub sequence : FileKey → (Row → FlowRead Node) → Row → FlowRead Node
sequence file node row = gathered file Seq 93 (λ _ left. value file node left) row

abbrev pub mapping : FileKey → (Row → FlowRead Node) → Row → FlowRead Node
mapping file node row = gathered file Map 125 (pair file node) row

-- A collection, whose inner ones are read by the inner reader; where there is none, too many are
-- open.
unfoldable pub collection : FileKey → Option (Row → FlowRead Node) → Row → FlowRead Node
collection file None row = Err (fault_at codes_of.TooDeep row)
collection file (Some node) row = if begins_with 91 row.text then sequence file node row
    else mapping file node row

-- the reader of collections in a collection, where so many may still open
unfoldable pub inner : FileKey → ℕ → Option (Row → FlowRead Node)
inner file zero = None
inner file (suc depth) = Some (collection file (inner file depth))

-- a collection, in which and with which so many may open
abbrev pub node : FileKey → ℕ → Row → FlowRead Node
node file depth = collection file (inner file depth)

-- The flow collection that a row begins with, in which and with which so many collections may open,
-- and how many characters it takes, with both brackets.
unfoldable pub flow : FileKey → ℕ → Row → Result (Node × ℕ) Fault
flow file depth row =
    if begins_with 91 row.text || begins_with 123 row.text
    then (node file depth row >>= λ read. Ok (read.0, length row.text - length read.1.text + 1))
    else Err (fault_at codes_of.NoEntry row)
