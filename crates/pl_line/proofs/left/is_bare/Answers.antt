use Rattle.std.proofs.Common.{sym}
use Rattle.pl_line.specs.Lines.{row}
use Rattle.pl_line.proofs.Laws.Left.{not_bare, bare_end}
use Rattle.pl_line.proofs.left.is_bare.Goals as goal

pub returns-in-Some : goal.returns-in-Some
returns-in-Some c = not_bare (row c.args.line.now) c.in-Some.first c.in-Some.ensures
    (sym c.if-not-is_blank.ensures)

pub returns-in-None : goal.returns-in-None
returns-in-None c = bare_end (row c.args.line.now) c.in-None.ensures
