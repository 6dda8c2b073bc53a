use Rattle.std.proofs.Common.{◌≡◌, ◌<◌, ◌≤◌, ◌-◌, ℕ, [], get_or, length}
use Rattle.pl_counters.specs.Counting.{times}
use Rattle.pl_counters.proofs.counting.lower.Given as goal

abbrev pub invariant-loop-at : goal.invariant-loop-at
invariant-loop-at l = record {
  lowered : (k : ℕ) → k < l.at → get_or l.left k 0
      ≡ get_or l.initial.left k 0 - times l.node (get_or l.lists k []);
  others : (k : ℕ) → l.at ≤ k → get_or l.left k 0 ≡ get_or l.initial.left k 0;
}
