use Rattle.std.proofs.Common.{sym}
use Rattle.pl_line.specs.Lines.{row}
use Rattle.pl_line.proofs.Laws.Left.{empty_at}
use Rattle.pl_line.proofs.left.is_empty.Goals as goal

pub returns-in-Some : goal.returns-in-Some
returns-in-Some c = empty_at (row c.args.line.now) c.in-Some.first c.in-Some.ensures
    (sym c.if-not-is_blank.ensures)
