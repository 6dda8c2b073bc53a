use Rattle.std.proofs.Common.{◌≡◌, ◌+◌, false, length}
use Rattle.pl_line.specs.Characters.{all_of}
use Rattle.pl_line.specs.Flow.{flow_len}
use Rattle.pl_line.proofs.flow_heads.flow_len.Given as goal

abbrev pub invariant-loop-c : goal.invariant-loop-c
invariant-loop-c l = record {
  value : l.len + flow_len l.whole l.behind_blank (all_of l.rest) ≡
      flow_len l.whole false (all_of l.text);
  within : l.len + length (all_of l.rest) ≡ length (all_of l.text);
}

abbrev pub decreases-loop-c : goal.decreases-loop-c
decreases-loop-c l = length (all_of l.rest)
