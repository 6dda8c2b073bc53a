use Rattle.std.proofs.Common.{◌+◌, ◌-◌, Ok, sym, ap₂, ◌∙◌}
use Rattle.pl_line.specs.Rows.{size}
use Rattle.pl_line.specs.Lines.{row}
use Rattle.pl_base.specs.declared.node.NodeBody.TheVariants.{Seq}
use Rattle.pl_reading.specs.Steps.{◌>>=◌}
use Rattle.pl_yaml.specs.Nodes.{values_at, item, items}
use Rattle.pl_yaml.specs.Stack.{node_from}
use Rattle.pl_yaml.proofs.Laws.Many.{sequence_shuts, sequence_opens}
use Rattle.pl_yaml.proofs.node.sequence.Goals as goal

pub returns-then-depth-eq0 : goal.returns-then-depth-eq0
returns-then-depth-eq0 c = λ file rows. sequence_shuts file c.args.depth c.args.parent
    (row c.args.line.now) rows c.fault_at.result c.if-depth-eq0.true c.fault_at.ensures

pub returns : goal.returns
returns c = λ file rows.
    sequence_opens file c.args.depth c.args.parent (row c.args.line.now) rows c.if-depth-eq0.false
    ∙ ap₂ (λ start before. items (item file (values_at file (c.args.depth - 1))) c.args.parent
    start.column (size rows + 1) before rows >>= λ read. Ok (
      node_from file start (Seq read.0),
      read.1,
    )) (sym c.start_of.ensures) (sym c.new.ensures)
