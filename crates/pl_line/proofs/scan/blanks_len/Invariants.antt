use Rattle.std.proofs.Common.{◌≡◌, ◌+◌, not, length}
use Rattle.std.specs.List.{position_or_len}
use Rattle.pl_line.specs.Characters.{all_of}
use Rattle.pl_reading.specs.Bytes as bytes
use Rattle.pl_line.specs.Rows as rows
use Rattle.pl_line.proofs.scan.blanks_len.Given as goal

abbrev pub invariant-loop-c : goal.invariant-loop-c
invariant-loop-c l = record {
  value : l.len + position_or_len (λ x. not (bytes.is_blank x)) (all_of l.rest) ≡
      position_or_len (λ x. not (bytes.is_blank x)) (all_of l.text);
  within : l.len + length (all_of l.rest) ≡ length (all_of l.text);
}

abbrev pub decreases-loop-c : goal.decreases-loop-c
decreases-loop-c l = length (all_of l.rest)
