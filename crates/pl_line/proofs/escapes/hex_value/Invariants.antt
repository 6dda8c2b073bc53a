use Rattle.std.proofs.Common.{◌≡◌, ℕ, ◌+◌, ◌≤◌, ◌<◌, ◌^◌, length}
use Rattle.pl_line.specs.Characters.{all_of}
use Rattle.pl_line.specs.Quoted.{hex_value}
use Rattle.pl_line.proofs.escapes.hex_value.Given as goal

abbrev pub invariant-loop-c : goal.invariant-loop-c
invariant-loop-c l = (i : ℕ) × (i + length (all_of l.rest) ≤ 8) × (l.value < 16 ^ i) ×
    (hex_value l.value (all_of l.rest) ≡ hex_value 0 (all_of l.digits))

abbrev pub decreases-loop-c : goal.decreases-loop-c
decreases-loop-c l = length (all_of l.rest)
