use Rattle.std.proofs.Common.{◌≡◌, ◌+◌, drop}
use Rattle.std.specs.List.{prefix_len}
use Rattle.pl_texts.specs.Formatting.{is_plain}
use Rattle.pl_texts.proofs.scanning.count_plain.Given as goal

abbrev pub invariant-loop-count : goal.invariant-loop-count
invariant-loop-count l = prefix_len is_plain l.bytes ≡ l.count + prefix_len is_plain
    (drop l.count l.bytes)
