use Rattle.std.proofs.Common.{sym}
use Rattle.pl_line.specs.Characters.{all_of}
use Rattle.pl_line.proofs.Laws.Quotes.{piece_itself}
use Rattle.pl_line.proofs.quotes.take_piece.Goals as goal

pub returns-in-Some-clause-value : goal.returns-in-Some-clause-value
returns-in-Some-clause-value c = piece_itself c.args.style c.in-Some.c (all_of c.args.rest.now)
    (all_of c.next.new.self) (sym c.if-not-is_special.ensures) c.in-Some.ensures
