use Rattle.std.proofs.Common.{◌≡◌, drop}
use Rattle.pl_file_sets.specs.Spread.{spread_by}
use Rattle.pl_file_sets.proofs.spread.spread_by.Given as goal

abbrev pub invariant-loop-byte : goal.invariant-loop-byte
invariant-loop-byte l =
    spread_by l.start l.bytes ≡ spread_by l.spread (drop l.byte-index l.bytes)
