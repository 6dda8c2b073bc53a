-- Block collections whose values are being read: what is read from there on.
use Rattle.std.specs.Prelude.{◌≡◌, ℕ, ◌+◌, ◌<◌, ◌≤◌, List, [], ◌∷◌, ◌++◌, Option, Some, None}
use Rattle.std.specs.Prelude.{Result, Ok, Err}
use Rattle.pl_base.specs.declared.place.FileKey.{FileKey}
use Rattle.pl_base.specs.declared.node.Node.{Node}
use Rattle.pl_base.specs.declared.node.NodeBody.{NodeBody}
use Rattle.pl_base.specs.declared.node.NodeBody.TheVariants.{Seq, Map}
use Rattle.pl_base.specs.declared.node.NodePair.{NodePair}
use Rattle.pl_base.specs.Places.{place_at}
use Rattle.pl_line.specs.declared.line_fault.ReadFault.{ReadFault}
use Rattle.pl_line.specs.Rows.{Row, size}
use Rattle.pl_line.specs.Lines.{row}
use Rattle.pl_line.specs.Gives.{Fails}
use Rattle.pl_reading.specs.Steps.{◌>>=◌}
use Rattle.pl_line.specs.Trees.{pair_of}
use Rattle.pl_yaml.specs.declared.key.Key.{Key}
use Rattle.pl_yaml.specs.declared.stack.Begun.{Begun}
use Rattle.pl_yaml.specs.declared.stack.Begun.TheVariants.{Made, Opened}
use Rattle.pl_yaml.specs.declared.stack.Found.{Found}
use Rattle.pl_yaml.specs.declared.stack.Found.TheVariants.{Here, Below}
use Rattle.pl_yaml.specs.declared.stack.Mapping.{Mapping}
use Rattle.pl_yaml.specs.declared.stack.Open.{Open}
use Rattle.pl_yaml.specs.declared.stack.Open.TheVariants as opens
use Rattle.pl_yaml.specs.declared.stack.Sequence.{Sequence}
use Rattle.pl_yaml.specs.declared.stack.Start.{Start}
use Rattle.pl_yaml.specs.Reading.{Read}
use Rattle.pl_yaml.specs.Nodes.{values_at, node, item, items, pairs}

-- where a row's column is, and a node that begins there
abbrev pub start_of : Row → Start
start_of row = record { line = row.number; column = row.column }

abbrev pub node_from : FileKey → Start → NodeBody → Node
node_from file start body = record { place = place_at file start.line start.column; body = body }

-- a collection's node, with the entries so far
abbrev pub made : FileKey → Open → Node
made file (opens.Sequence s) = node_from file s.start (Seq s.items)
made file (opens.Mapping m) = node_from file m.start (Map m.pairs.pairs)

-- a collection's node, where these entries were read and so many more may follow
abbrev pub items_from : FileKey → Sequence → ℕ → List Node → List Row → Read Node
items_from file s turns before rows =
    items (item file (values_at file s.depth)) s.parent s.start.column turns before rows
    >>= λ read. Ok (node_from file s.start (Seq read.0), read.1)

abbrev pub pairs_from : FileKey → Mapping → ℕ → List NodePair → List Row → Read Node
pairs_from file m turns before rows =
    pairs file (values_at file m.depth) m.start.column turns before rows
    >>= λ read. Ok (node_from file m.start (Map read.0), read.1)

abbrev pub in_sequence : FileKey → ℕ → Sequence → List Row → Read Node
in_sequence file turns s rows = items_from file s turns s.items rows

abbrev pub in_mapping : FileKey → ℕ → Mapping → List Row → Read Node
in_mapping file turns m rows = pairs_from file m turns m.pairs.pairs rows

abbrev pub in_open : FileKey → ℕ → Open → List Row → Read Node
in_open file turns (opens.Sequence s) rows = in_sequence file turns s rows
in_open file turns (opens.Mapping m) rows = in_mapping file turns m rows

-- the same behind the value of its last entry
abbrev pub with_item : FileKey → Mapping → Node → List NodePair
with_item file m item =
    let place = place_at file m.key_start.line m.key_start.column in
    m.pairs.pairs ++ record { key = m.key; key_place = place; item = item } ∷ []

abbrev pub into : FileKey → ℕ → Open → Node × List Row → Read Node
into file turns (opens.Sequence s) read = items_from file s turns (s.items ++ read.0 ∷ []) read.1
into file turns (opens.Mapping m) read = pairs_from file m turns (with_item file m read.0) read.1

-- an entry's value, and a key's pair
abbrev pub found : FileKey → Found → List Row → Read Node
found file (Here item) rows = Ok (item, rows)
found file (Below depth slot) rows = node file depth slot rows

abbrev pub paired : FileKey → Key → Read Node → Read NodePair
paired file key read = read >>= λ value. Ok (pair_of file (row key.start) key.text value.0, value.1)

-- what is read from what has begun
abbrev pub begins : FileKey → Begun → List Row → Read Node
begins file (Made item) rows = Ok (item, rows)
begins file (Opened begun) rows = in_open file (size rows + 1) begun rows

-- what is read on from a collection that has gone to its next entry, with what was found there of
-- its value
abbrev pub goes : FileKey → ℕ → Open → Option Found → List Row → Read Node
goes file turns begun None rows = Ok (made file begun, rows)
goes file turns begun (Some value) rows = found file value rows >>= into file turns begun

-- reading goes on from what a function answered as before it, unless memory ran out
abbrev pub Leads : {X A : Type 0} → (X → Read A) → Result X ReadFault → Read A → Type 0
Leads to (Ok x) read = read ≡ to x
Leads to (Err e) read = Fails e read

-- an entry takes a part of the rows
abbrev pub Falls : Option Found → List Row → List Row → Type 0
Falls None before rows = size rows ≤ size before
Falls (Some value) before rows = size rows < size before

-- When a node was read for the innermost of the collections that wait, which come first, this is
-- the whole. Each has more turns than lines and characters are left.
abbrev pub Resumes : FileKey → ℕ → List Open → Read Node → Read Node → Type 0
Resumes file left [] read whole = read ≡ whole
Resumes file left (begun ∷ others) read whole = (turns : ℕ) × (left < turns) ×
    Resumes file left others (read >>= into file turns begun) whole
