use Rattle.std.proofs.Common.{◌≡◌, ◌||◌, drop}
use Rattle.pl_names.specs.Bytes.{goes_wrong_in}
use Rattle.pl_names.proofs.keys.goes_wrong_in.Given as goal

abbrev pub invariant-loop-byte : goal.invariant-loop-byte
invariant-loop-byte l = goes_wrong_in l.fn.third l.fn.second l.fn.first l.bytes ≡
    (l.wrong || goes_wrong_in l.third l.second l.first (drop l.byte-index l.bytes))
