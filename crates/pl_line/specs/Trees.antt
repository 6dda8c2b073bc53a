-- Nodes and pairs, as they are read (YAML 1.2.2, sections 3.2.1 and 7.3.3).
use Rattle.std.specs.Prelude.{ℕ, Bool, ◌&&◌, not, nat_eq, List, take, codes, encode_utf8_all}
use Rattle.std.specs.List.{starts_with, list_any}
use Rattle.std.specs.Cmp.Lexicographic.{pointwise}
use Rattle.pl_base.specs.declared.place.FileKey.{FileKey}
use Rattle.pl_base.specs.declared.node.Node.{Node}
use Rattle.pl_base.specs.declared.node.NodeBody.{NodeBody}
use Rattle.pl_base.specs.declared.node.NodePair.{NodePair}
use Rattle.pl_base.specs.Places.{place_at}
use Rattle.pl_line.specs.Rows.{Row}
use Rattle.pl_line.specs.Scanning.{content_len}

-- a node at a row's column
abbrev pub node_at : FileKey → Row → NodeBody → Node
node_at file row body = record { place = place_at file row.number row.column; body = body }

-- the plain scalar of so many characters, without the blanks behind it, as UTF-8
abbrev pub plain : ℕ → Row → List ℕ
plain n row = encode_utf8_all (take (content_len (take n row.text)) row.text)

abbrev pub has_key : List ℕ → List NodePair → Bool
has_key key pairs = list_any (λ pair. pointwise nat_eq pair.key key) pairs

-- two keys may not be equal, but those that begin with `${{`
abbrev pub is_doubled : List ℕ → List NodePair → Bool
is_doubled key pairs = not (starts_with nat_eq key (codes "${{")) && has_key key pairs

-- a pair whose key stands at a row's column
abbrev pub pair_of : FileKey → Row → List ℕ → Node → NodePair
pair_of file row key item = record {
  key = key;
  key_place = place_at file row.number row.column;
  item = item;
}
