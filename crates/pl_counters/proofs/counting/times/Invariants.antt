use Rattle.std.proofs.Common.{◌≡◌, ◌≤◌, take}
use Rattle.pl_counters.specs.Counting.{times}
use Rattle.pl_counters.proofs.counting.times.Given as goal

abbrev pub invariant-loop-other : goal.invariant-loop-other
invariant-loop-other l = record {
  so_far : l.count ≡ times l.node (take l.other-index l.waits);
  fits : l.count ≤ l.other-index;
}
