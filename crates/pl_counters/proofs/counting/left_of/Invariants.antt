use Rattle.std.proofs.Common.{◌≡◌, ◌≤◌, take}
use Rattle.pl_counters.specs.Counting.{left_of}
use Rattle.pl_counters.proofs.counting.left_of.Given as goal

abbrev pub invariant-loop-node : goal.invariant-loop-node
invariant-loop-node l = record {
  so_far : l.left ≡ left_of l.ended (take l.node-index l.waits);
  fits : l.left ≤ l.node-index;
}
