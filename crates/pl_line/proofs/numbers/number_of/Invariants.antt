use Rattle.std.proofs.Common.{◌≡◌, ◌<◌, ◌^◌, drop}
use Rattle.pl_line.specs.Keys.{number_from}
use Rattle.pl_line.proofs.numbers.number_of.Given as goal

abbrev pub invariant-loop-byte : goal.invariant-loop-byte
invariant-loop-byte l = (l.number < 2 ^ 54) × (number_from l.number (drop l.byte-index l.fn.key) ≡
    number_from 0 l.fn.key)
