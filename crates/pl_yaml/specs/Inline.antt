-- Nodes on the line of their key or dash (YAML 1.2.2, sections 7.3, 7.4 and 8.1).
use Rattle.std.specs.Prelude.{ℕ, List, Result, Ok, Err}
use Rattle.pl_base.specs.declared.place.FileKey.{FileKey}
use Rattle.pl_base.specs.declared.node.Node.{Node}
use Rattle.pl_base.specs.declared.node.NodeBody.TheVariants.{Scalar}
use Rattle.pl_line.specs.declared.code.YamlCode.TheVariants as codes_of
use Rattle.pl_line.specs.declared.line_fault.Fault.{Fault}
use Rattle.pl_line.specs.Rows.{Row}
use Rattle.pl_line.specs.Reading.{fault_at, fault_behind}
use Rattle.pl_reading.specs.Steps.{◌>>=◌}
use Rattle.pl_line.specs.Trees.{node_at}
use Rattle.pl_line.specs.Quoted.{quoted}
use Rattle.pl_line.specs.Flow.{flow}
use Rattle.pl_yaml.specs.declared.head.Head.{Head}
use Rattle.pl_yaml.specs.declared.head.Head.TheVariants as heads
use Rattle.pl_yaml.specs.Reading.{Read}
use Rattle.pl_yaml.specs.Heads.{head_of, refusal_inline}
use Rattle.pl_yaml.specs.Content.{closed}
use Rattle.pl_yaml.specs.Plain.{word}
use Rattle.pl_yaml.specs.BlockScalars.{block}

-- a quoted scalar or a flow collection that takes so many characters, behind which its line has no
-- content
abbrev pub quoted_node : FileKey → Row → List ℕ × ℕ → Result Node Fault
quoted_node file row read = closed read.1 row >>= λ _. Ok (node_at file row (Scalar read.0))

abbrev pub flow_node : Row → Node × ℕ → Result Node Fault
flow_node row read = closed read.1 row >>= λ _. Ok read.0

-- a node with the rows behind its line
abbrev pub with_left : List Row → Result Node Fault → Read Node
with_left rows read = read >>= λ made. Ok (made, rows)

-- A value on the line of its key or dash, held by a block of that column; so many collections may
-- still open. No block collection begins there.
abbrev pub inline_by : FileKey → ℕ → ℕ → Row → Head → List Row → Read Node
inline_by file depth parent row (heads.Word n) rows = word file parent row n rows
inline_by file depth parent row heads.Block rows = block file parent row rows
inline_by file depth parent row heads.Quote rows =
    with_left rows (quoted row >>= quoted_node file row)
inline_by file depth parent row heads.Flow rows = with_left rows (flow file depth row >>=
    flow_node row)
inline_by file depth parent row (heads.Key n) rows = Err (fault_behind codes_of.NoEntry n row)
inline_by file depth parent row head rows = Err (fault_at (refusal_inline head) row)

unfoldable pub inline : FileKey → ℕ → ℕ → Row → List Row → Read Node
inline file depth parent row rows = inline_by file depth parent row (head_of row) rows
