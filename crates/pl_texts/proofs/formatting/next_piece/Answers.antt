use Rattle.std.proofs.Common.{sym}
use Rattle.pl_texts.proofs.Filling.{filled_opened, filled_closed, plain_front}
use Rattle.pl_texts.proofs.formatting.next_piece.Goals as goal

pub returns-then-begins_with-clause-piece : goal.returns-then-begins_with-clause-piece
returns-then-begins_with-clause-piece c = filled_opened c.args.arguments.now c.args.pattern.now _ _
    (sym c.if-begins_with.ensures) c.skip_byte.ensures c.opened.ensures

pub returns-then-begins_with-2-clause-piece : goal.returns-then-begins_with-2-clause-piece
returns-then-begins_with-2-clause-piece c = filled_closed c.args.arguments.now c.args.pattern.now _
    _ (sym c.if-begins_with-2.ensures) c.skip_byte-then-begins_with-2.ensures c.closed.ensures

pub returns-else-begins_with-2-clause-piece : goal.returns-else-begins_with-2-clause-piece
returns-else-begins_with-2-clause-piece c =
    rw (c.split_plain.ensures.front, c.split_plain.ensures.behind)
    (plain_front c.args.arguments.now c.args.pattern.now)
