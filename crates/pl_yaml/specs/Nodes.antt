-- Block nodes (YAML 1.2.2, sections 6.1, 7.2, 8.2 and 9.1).
use Rattle.std.specs.Prelude.{ℕ, zero, suc, ◌+◌, Bool, true, false, ◌==◌, ◌&&◌, ◌||◌, not, nat_lt}
use Rattle.std.specs.Prelude.{List, [], ◌∷◌, drop, Option, Some, None, Result, Ok, Err}
use Rattle.std.specs.Prelude.{if◌then◌else◌}
use Rattle.pl_base.specs.declared.place.FileKey.{FileKey}
use Rattle.pl_base.specs.declared.node.Node.{Node}
use Rattle.pl_base.specs.declared.node.NodeBody.TheVariants.{Scalar, Seq, Map}
use Rattle.pl_base.specs.declared.node.NodePair.{NodePair}
use Rattle.pl_base.specs.Places.{place_at}
use Rattle.pl_line.specs.declared.code.YamlCode.TheVariants as codes_of
use Rattle.pl_line.specs.declared.line_fault.Fault.{Fault}
use Rattle.pl_line.specs.Rows.{Row, size}
use Rattle.pl_line.specs.Reading.{fault_at}
use Rattle.pl_reading.specs.Steps.{◌>>=◌}
use Rattle.pl_line.specs.Left.{behind, spaces_only, is_done, line_end}
use Rattle.pl_reading.specs.Bytes.{begins_with}
use Rattle.pl_line.specs.Trees.{node_at, is_doubled, pair_of}
use Rattle.pl_line.specs.Quoted.{quoted}
use Rattle.pl_line.specs.Flow.{flow}
use Rattle.pl_yaml.specs.declared.head.Head.{Head}
use Rattle.pl_yaml.specs.declared.head.Head.TheVariants as heads
use Rattle.pl_yaml.specs.declared.slot.Slot.{Slot}
use Rattle.pl_yaml.specs.Reading.{Read, many}
use Rattle.pl_yaml.specs.Heads.{head_of, refusal}
use Rattle.pl_yaml.specs.Content.{content}
use Rattle.pl_yaml.specs.Plain.{word}
use Rattle.pl_yaml.specs.BlockScalars.{block}
use Rattle.pl_yaml.specs.Inline.{quoted_node, flow_node, with_left, inline}
use Rattle.pl_yaml.specs.Keys.{FoundKey, is_colon, next_key}

abbrev pub is_dash : Head → Bool
is_dash heads.Dash = true
is_dash _ = false

-- A sequence's entry stands at its column and begins with a dash. One at its mapping's own
-- indentation ends before the mapping's next key.
abbrev pub item_by : ℕ → ℕ → Row → List Row → Read (Option Row)
item_by parent column row rows =
    if nat_lt row.column column then Ok (None, rows)
    else if nat_lt column row.column then Err (fault_at codes_of.BadIndent row)
    else if is_dash (head_of row) then Ok (Some row, rows)
    else if parent == column then Ok (None, rows)
    else Err (fault_at codes_of.NoEntry row)

abbrev pub item_in : ℕ → ℕ → List Row → Read (Option Row)
item_in parent column [] = Ok (None, [])
item_in parent column (row ∷ rows) = item_by parent column row (row ∷ rows)

unfoldable pub next_item : ℕ → ℕ → List Row → Read (Option Row)
next_item parent column rows = content rows >>= item_in parent column

-- where the value of a key or a dash stands: it is empty at that place; a sequence may stand at the
-- key's own column
abbrev pub below : Bool → Row → Slot
below own row = record { line = row.number; column = row.column; parent = row.column; own = own }

abbrev pub empty : FileKey → Slot → Node
empty file slot = record { place = place_at file slot.line slot.column; body = Scalar [] }

-- the reader of values in a collection, in which so many collections may still open
pub record Values : Type 0 where
  pub depth : ℕ
  pub node : Slot → List Row → Read Node

-- the value that stands there: on the line of its key or dash, where a row of it is left, or on
-- later lines
unfoldable pub value : FileKey → Values → Slot → Row → List Row → Read Node
value file values slot row rows =
    if is_done row then (line_end row >>= λ _. values.node slot rows)
    else inline file values.depth slot.parent row rows

-- an entry of a sequence: a mapping or sequence may begin behind the dash, where spaces alone stand
-- between
unfoldable pub item : FileKey → Values → Row → List Row → Read Node
item file values row rows =
    if not (is_done (behind 1 row)) && spaces_only 1 row
    then values.node (below false row) (behind 1 row ∷ drop 1 rows)
    else value file values (below false row) (behind 1 row) (drop 1 rows)

-- an entry of a mapping, after those before it
unfoldable pub pair : FileKey → Values → List NodePair → FoundKey → List Row → Read NodePair
pair file values before key rows =
    if is_doubled key.text before then Err (fault_at codes_of.DuplicateKey key.start)
    else (value file values (below true key.start) key.left (drop 1 rows)
    >>= λ read. Ok (pair_of file key.start key.text read.0, read.1))

-- the entries of a sequence at a column, each read from its row on, as long as there are more
abbrev pub items :
    (Row → List Row → Read Node) → ℕ → ℕ → ℕ → List Node → List Row → Read (List Node)
items entry parent column turns before rows =
    many (next_item parent column) (λ _ row left. entry row left) turns before rows

-- the entries of a mapping at a column
abbrev pub pairs : FileKey → Values → ℕ → ℕ → List NodePair → List Row → Read (List NodePair)
pairs file values column turns before rows =
    many (next_key file values.depth column) (pair file values) turns before rows

-- the collections that begin at a row, the first of the rows
abbrev pub sequence_of : FileKey → Values → ℕ → Row → List Row → Read Node
sequence_of file values parent row rows =
    items (item file values) parent row.column (size rows + 1) [] rows
    >>= λ read. Ok (node_at file row (Seq read.0), read.1)

abbrev pub mapping_of : FileKey → Values → Row → List Row → Read Node
mapping_of file values row rows =
    pairs file values row.column (size rows + 1) [] rows
    >>= λ read. Ok (node_at file row (Map read.0), read.1)

-- their values are read by the inner reader; where there is none, too many are open
unfoldable pub sequence : FileKey → Option Values → ℕ → Row → List Row → Read Node
sequence file None parent row rows = Err (fault_at codes_of.TooDeep row)
sequence file (Some values) parent row rows = sequence_of file values parent row rows

unfoldable pub mapping : FileKey → Option Values → Row → List Row → Read Node
mapping file None row rows = Err (fault_at codes_of.TooDeep row)
mapping file (Some values) row rows = mapping_of file values row rows

-- a value on lines of its own is deeper than the block that holds it; a sequence may stand at its
-- mapping's own indentation
abbrev pub fits : Slot → Row → Bool
fits slot row =
    nat_lt slot.parent row.column
    || slot.own && row.column == slot.parent && is_dash (head_of row)

-- a quoted scalar, which before a `:` is a mapping's first key
abbrev pub begun_quoted : FileKey → Option Values → Row → List Row → List ℕ × ℕ → Read Node
begun_quoted file inner row rows read =
    if is_colon (behind read.1 row) then mapping file inner row rows
    else with_left (drop 1 rows) (quoted_node file row read)

abbrev pub in_quotes : FileKey → Option Values → Row → List Row → Read Node
in_quotes file inner row rows = quoted row >>= begun_quoted file inner row rows

-- a flow collection, which can't be a key
abbrev pub begun_flow : Row → Node × ℕ → Result Node Fault
begun_flow row read =
    if begins_with 58 (behind read.1 row).text
    then Err (fault_at codes_of.ComplexKey (behind read.1 row))
    else flow_node row read

abbrev pub in_brackets : FileKey → ℕ → Row → Result Node Fault
in_brackets file depth row = flow file depth row >>= begun_flow row

-- the block that holds a node: its column, and how many collections may still open in it
pub record Holder : Type 0 where
  pub file : FileKey
  pub depth : ℕ
  pub column : ℕ

abbrev pub holder : FileKey → ℕ → ℕ → Holder
holder file depth column = record { file = file; depth = depth; column = column }

-- the node that begins with that head at a row, the first of the rows
abbrev pub begun_by : Holder → Option Values → Row → Head → List Row → Read Node
begun_by holder inner row heads.Dash rows = sequence holder.file inner holder.column row rows
begun_by holder inner row (heads.Key n) rows = mapping holder.file inner row rows
begun_by holder inner row (heads.Word n) rows = word holder.file holder.column row n (drop 1 rows)
begun_by holder inner row heads.Block rows = block holder.file holder.column row (drop 1 rows)
begun_by holder inner row heads.Quote rows = in_quotes holder.file inner row rows
begun_by holder inner row heads.Flow rows =
    with_left (drop 1 rows) (in_brackets holder.file holder.depth row)
begun_by holder inner row head rows = Err (fault_at (refusal head) row)

unfoldable pub begun : FileKey → ℕ → Option Values → ℕ → Row → List Row → Read Node
begun file depth inner parent row rows =
    begun_by (holder file depth parent) inner row (head_of row) rows

abbrev pub node_in : FileKey → ℕ → Option Values → Slot → List Row → Read Node
node_in file depth inner slot [] = Ok (empty file slot, [])
node_in file depth inner slot (row ∷ rows) =
    if fits slot row then begun file depth inner slot.parent row (row ∷ rows)
    else Ok (empty file slot, row ∷ rows)

abbrev pub node_with : FileKey → ℕ → Option Values → Slot → List Row → Read Node
node_with file depth inner slot rows = content rows >>= node_in file depth inner slot

-- the reader of values in a collection that opens where so many may still open
unfoldable pub inner : FileKey → ℕ → Option Values
inner file zero = None
inner file (suc depth) =
    Some (record { depth = depth; node = node_with file depth (inner file depth) })

-- a node, in which so many collections may still open
unfoldable pub node : FileKey → ℕ → Slot → List Row → Read Node
node file depth = node_with file depth (inner file depth)

abbrev pub values_at : FileKey → ℕ → Values
values_at file most = record { depth = most; node = node file most }
