use Rattle.pl_expr.proofs.Quotes.{arguments_written}
use Rattle.pl_expr.proofs.printing.+printer.Goals as goal

pub push_arguments-loop-index-preserved : goal.push_arguments-loop-index-preserved
push_arguments-loop-index-preserved t c =
    arguments_written c.args.text.now c.loop-index.text c.push_separator.new.text _ _
    c.loop-index.index c.argument-item.result c.loop-index-test.true c.argument-item.is
    c.loop-index.invariant c.in_ok-push_separator.ensures c.in_ok-push_expr.ensures
