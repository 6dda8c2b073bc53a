-- How a node is printed as a YAML text: in block style (YAML 1.2.2, section 8.2), two spaces a
-- level, with every scalar and every key in double quotes (section 7.3.1).
use Rattle.std.specs.Prelude.{ℕ, ◌+◌, ◌/◌, ◌%◌, List, [], ◌∷◌, ◌++◌, map, flat_map, codes, ◌==◌}
use Rattle.std.specs.Prelude.{◌||◌, nat_lt, if◌then◌else◌}
use Rattle.pl_base.specs.declared.node.Node.{Node, fold-Node}
use Rattle.pl_base.specs.declared.node.NodeBody.TheOpen.{NodeBody-F, Node-F, NodePair-F, Scalar}
use Rattle.pl_base.specs.declared.node.NodeBody.TheOpen.{Seq, Map}
use Rattle.pl_base.specs.declared.node.NodePair.{NodePair, fold-NodePair}
use Rattle.pl_base.specs.declared.node.NodeBody.{NodeBody, fold-NodeBody}

-- ---- texts in double quotes

-- a hexadecimal digit, the letters in upper case
abbrev pub hex_digit : ℕ → ℕ
hex_digit n = if nat_lt n 10 then 48 + n else 55 + n

-- A byte between double quotes (section 5.7): `\"`, `\\`, `\n`, `\r`, `\t`, and `\xHH` for the
-- other control characters of ASCII. All else stands as it is, as do the bytes from 128 up of a
-- longer character.
abbrev pub escaped : ℕ → List ℕ
escaped byte =
    if byte == 34 then 92 ∷ 34 ∷ []
    else (if byte == 92 then 92 ∷ 92 ∷ []
    else (if byte == 10 then 92 ∷ 110 ∷ []
    else (if byte == 13 then 92 ∷ 114 ∷ []
    else (if byte == 9 then 92 ∷ 116 ∷ []
    else (if nat_lt byte 32 || byte == 127 then 92 ∷ 120 ∷ hex_digit (byte / 16) ∷
    hex_digit (byte % 16) ∷ []
    else byte ∷ [])))))

-- a text in double quotes
abbrev pub quoted : List ℕ → List ℕ
quoted text = 34 ∷ flat_map escaped text ++ 34 ∷ []

-- ---- lines

-- a line, without its line feed
abbrev pub Line : Type 0
Line = List ℕ

-- one level deeper
abbrev pub indented : List Line → List Line
indented lines = map (λ line. 32 ∷ 32 ∷ line) lines

-- what a node is behind the mark of the entry that holds it: a text that goes on on the mark's
-- line, or lines below it
pub data Written : Type 0 where
  inline : Line → Written
  below : List Line → Written

-- an entry: its mark, and what is behind it
abbrev pub entry : Line → Written → List Line
entry mark (inline text) = (mark ++ 32 ∷ text) ∷ []
entry mark (below lines) = mark ∷ indented lines

-- an item of a sequence, whose mark is a dash
abbrev pub item_entry : Written → List Line
item_entry = entry (codes "-")

-- a pair of a mapping, whose mark is its key and a colon
abbrev pub pair_entry : List ℕ → Written → List Line
pair_entry key = entry (quoted key ++ codes ":")

-- ---- nodes

-- a sequence, as what its items are
abbrev pub sequence_of : List Written → Written
sequence_of [] = inline (codes "[]")
sequence_of (item ∷ items) = below (flat_map item_entry (item ∷ items))

-- a mapping, as the lines of its entries
abbrev pub mapping_of : List (List Line) → Written
mapping_of [] = inline (codes "{}")
mapping_of (lines ∷ more) = below (flat_map (λ entry. entry) (lines ∷ more))

-- A scalar and an empty collection stand on the line that they begin on, any other collection on
-- lines of its own.
abbrev pub body_step : NodeBody-F Written Written (List Line) → Written
body_step (Scalar text) = inline (quoted text)
body_step (Seq items) = sequence_of items
body_step (Map pairs) = mapping_of pairs

abbrev pub node_step : Node-F Written Written (List Line) → Written
node_step node = node.body

abbrev pub pair_step : NodePair-F Written Written (List Line) → List Line
pair_step pair = pair_entry pair.key pair.item

abbrev pub written : Node → Written
written = fold-Node Written Written (List Line) body_step node_step pair_step

abbrev pub written_body : NodeBody → Written
written_body = fold-NodeBody Written Written (List Line) body_step node_step pair_step

abbrev pub written_pair : NodePair → List Line
written_pair = fold-NodePair Written Written (List Line) body_step node_step pair_step

-- the lines of a whole text
abbrev pub lines_of : Written → List Line
lines_of (inline text) = text ∷ []
lines_of (below lines) = lines

-- the printed form: each line ends with a line feed
abbrev pub printed : Node → List ℕ
printed node = flat_map (λ line. line ++ 10 ∷ []) (lines_of (written node))
