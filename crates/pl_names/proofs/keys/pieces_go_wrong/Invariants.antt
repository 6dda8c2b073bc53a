use Rattle.std.proofs.Common.{◌≡◌, ◌*◌, take}
use Rattle.pl_names.specs.Bytes.{goes_wrong_in, shifted, slash, wrong_at}
use Rattle.pl_names.proofs.Pieces.{behind}
use Rattle.pl_names.proofs.keys.pieces_go_wrong.Given as goal

abbrev pub invariant-loop-at : goal.invariant-loop-at
invariant-loop-at l = record {
  told : l.wrong ≡ goes_wrong_in slash slash slash (take (16 * l.at) l.bytes);
  before : (l.third, l.second, l.first) ≡
      behind wrong_at shifted (slash, slash, slash) (take (16 * l.at) l.bytes);
}
