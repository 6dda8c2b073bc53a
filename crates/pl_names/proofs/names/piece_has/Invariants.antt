use Rattle.std.proofs.Common.{◌≡◌, ◌||◌, drop}
use Rattle.pl_names.specs.Bytes.{has_control_behind}
use Rattle.pl_names.proofs.names.piece_has.Given as goal

abbrev pub invariant-loop-byte : goal.invariant-loop-byte
invariant-loop-byte l = has_control_behind l.fn.before l.bytes ≡
    (l.found || has_control_behind l.last (drop l.byte-index l.bytes))
