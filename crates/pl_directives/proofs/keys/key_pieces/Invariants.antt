use Rattle.std.proofs.Common.{◌≡◌, drop}
use Rattle.pl_directives.specs.Keys.{key_pieces_behind}
use Rattle.pl_directives.proofs.keys.key_pieces.Given as goal

abbrev pub invariant-loop-piece : goal.invariant-loop-piece
invariant-loop-piece l =
    key_pieces_behind l.frame l.place l.pieces l.fn.before
    ≡ key_pieces_behind l.frame l.place (drop l.piece-index l.piece-items) l.whole
