use Rattle.std.proofs.Common.{◌-◌, length}
use Rattle.pl_bundle.proofs.Bodies.{Met}
use Rattle.pl_bundle.proofs.reading.body_len.Given as goal

abbrev pub invariant-loop-len : goal.invariant-loop-len
invariant-loop-len l = Met l.bytes l.len

abbrev pub decreases-loop-len : goal.decreases-loop-len
decreases-loop-len l = length l.bytes - l.len
