-- What a text spells (YAML 1.2.2, in the profile of docs).
use Rattle.std.specs.Prelude.{ℕ, false, not, nat_lt, List, [], ◌∷◌, length, Result, Ok, Err}
use Rattle.std.specs.Prelude.{if◌then◌else◌, chars}
use Rattle.std.specs.Str.{is_utf8}
use Rattle.pl_base.specs.declared.place.FileKey.{FileKey}
use Rattle.pl_base.specs.declared.place.Place.{Place}
use Rattle.pl_base.specs.declared.node.Node.{Node}
use Rattle.pl_base.specs.Places.{place_at}
use Rattle.pl_line.specs.declared.code.YamlCode.{YamlCode}
use Rattle.pl_line.specs.declared.code.YamlCode.TheVariants as codes_of
use Rattle.pl_line.specs.declared.line_fault.Fault.{Fault}
use Rattle.pl_yaml.specs.declared.slot.Slot.{Slot}
use Rattle.pl_line.specs.Rows.{Row, rows_of}
use Rattle.pl_line.specs.Reading.{fault_at}
use Rattle.pl_reading.specs.Steps.{◌>>=◌}
use Rattle.pl_yaml.specs.Content.{content, lead}
use Rattle.pl_yaml.specs.Nodes.{node}

-- the whole text's node stands in no block
abbrev pub whole_text : Slot
whole_text = record { line = 1; column = 1; parent = 0; own = false }

-- behind it no line has content
abbrev pub nothing_left : List Row → Result Unit Fault
nothing_left [] = Ok tt
nothing_left (row ∷ rows) = Err (fault_at codes_of.BadIndent row)

-- the node of a text's rows
unfoldable pub document : FileKey → List Row → Result Node Fault
document file rows = lead rows >>= λ left. node file 64 whole_text left >>=
    λ read. content read.1 >>= λ rest. nothing_left rest >>= λ _. Ok read.0

-- a refusal at a place of the file
abbrev pub refused : FileKey → YamlCode → ℕ → ℕ → Result Node (YamlCode × Place)
refused file code line column = Err (code, place_at file line column)

abbrev pub placed : FileKey → Result Node Fault → Result Node (YamlCode × Place)
placed file (Ok node) = Ok node
placed file (Err fault) = refused file fault.code fault.line fault.column

-- The node that a text spells, or the first fault and its place. At most 262,144 bytes, which are
-- UTF-8.
unfoldable pub spells : FileKey → List ℕ → Result Node (YamlCode × Place)
spells file text =
    if nat_lt 262144 (length text) then refused file codes_of.TooLarge 1 1
    else if not (is_utf8 text) then refused file codes_of.NotUtf8 1 1
    else placed file (document file (rows_of (chars text)))
