use Rattle.std.proofs.Common.{◌≡◌, ◌*◌, take}
use Rattle.pl_names.specs.Bytes.{ends_control, has_control_behind}
use Rattle.pl_names.proofs.Pieces.{behind}
use Rattle.pl_names.proofs.names.pieces_have.Given as goal

abbrev pub invariant-loop-at : goal.invariant-loop-at
invariant-loop-at l = record {
  told : l.found ≡ has_control_behind 0 (take (16 * l.at) l.bytes);
  before : l.last ≡ behind ends_control (λ before byte. byte) 0 (take (16 * l.at) l.bytes);
}
