use Rattle.std.proofs.Common.{◌≡◌, ◌+◌, drop}
use Rattle.std.specs.List.{prefix_len}
use Rattle.pl_template.specs.Words.{is_blank}
use Rattle.pl_template.proofs.words.count_blanks.Given as goal

abbrev pub invariant-loop-count : goal.invariant-loop-count
invariant-loop-count l =
    prefix_len is_blank l.bytes ≡ l.count + prefix_len is_blank (drop l.count l.bytes)
