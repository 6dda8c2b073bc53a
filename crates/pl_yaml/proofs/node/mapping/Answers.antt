use Rattle.std.proofs.Common.{◌+◌, ◌-◌, Ok, sym, ap₂, ◌∙◌}
use Rattle.pl_line.specs.Rows.{size}
use Rattle.pl_line.specs.Lines.{row}
use Rattle.pl_base.specs.declared.node.NodeBody.TheVariants.{Map}
use Rattle.pl_reading.specs.Steps.{◌>>=◌}
use Rattle.pl_yaml.specs.Nodes.{values_at, pairs}
use Rattle.pl_yaml.specs.Stack.{node_from}
use Rattle.pl_yaml.proofs.Laws.Many.{mapping_shuts, mapping_opens}
use Rattle.pl_yaml.proofs.node.mapping.Goals as goal

pub returns-then-depth-eq0 : goal.returns-then-depth-eq0
returns-then-depth-eq0 c = λ file rows. mapping_shuts file c.args.depth (row c.args.line.now) rows
    c.fault_at.result c.if-depth-eq0.true c.fault_at.ensures

pub returns : goal.returns
returns c = λ file rows.
    mapping_opens file c.args.depth (row c.args.line.now) rows c.if-depth-eq0.false
    ∙ ap₂ (λ start before. pairs file (values_at file (c.args.depth - 1))
    start.column (size rows + 1) before rows >>= λ read. Ok (
      node_from file start (Map read.0),
      read.1,
    )) (sym c.start_of.ensures) (sym c.new.ensures)
