use Rattle.std.proofs.Common.{◌≡◌, drop}
use Rattle.pl_directives.specs.Scalars.{pieces_behind}
use Rattle.pl_directives.proofs.scalars.join_pieces.Given as goal

abbrev pub invariant-loop-piece : goal.invariant-loop-piece
invariant-loop-piece l =
    pieces_behind l.frame l.place l.pieces l.fn.joined
    ≡ pieces_behind l.frame l.place (drop l.piece-index l.piece-items) l.whole
