use Rattle.std.proofs.Common.{rules}
use Rattle.pl_schema_parts.specs.Rows.{read_pair}
use Rattle.pl_schema.specs.Pipelines.{new_root, root_row}
use Rattle.pl_schema_parts.proofs.Order.{stop, go_on}
use Rattle.pl_schema.proofs.root.read_root.Goals as goal

pub returns-in_err-root_pair : goal.returns-in_err-root_pair
returns-in_err-root_pair c =
    let stopped = stop (read_pair (root_row c.args.steps)) new_root c.loop-pair.root
    c.args.pairs.now c.loop-pair.pair-index c.pair-item.result c.in_err-root_pair.field-0.0
    c.loop-pair.invariant c.loop-pair-test.true c.pair-item.is c.in_err-root_pair.ensures in
    search (rules, stopped)

pub loop-pair-preserved : goal.loop-pair-preserved
loop-pair-preserved c = go_on (read_pair (root_row c.args.steps)) new_root c.loop-pair.root
    c.root_pair.new.root c.args.pairs.now c.loop-pair.pair-index c.pair-item.result
    c.loop-pair.invariant c.loop-pair-test.true c.pair-item.is c.in_ok-root_pair.ensures
