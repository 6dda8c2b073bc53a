use Rattle.std.proofs.Common.{◌≡◌, ◌+◌, ◌==◌, not, length}
use Rattle.std.specs.List.{position_or_len}
use Rattle.pl_line.specs.Characters.{all_of}
use Rattle.pl_line.proofs.scan.spaces_len.Given as goal

abbrev pub invariant-loop-len : goal.invariant-loop-len
invariant-loop-len l = record {
  value : l.len + position_or_len (λ x. not (x == 32)) (all_of l.rest) ≡
      position_or_len (λ x. not (x == 32)) (all_of l.text);
  within : l.len + length (all_of l.rest) ≡ length (all_of l.text);
}

abbrev pub decreases-loop-len : goal.decreases-loop-len
decreases-loop-len l = length (all_of l.rest)
