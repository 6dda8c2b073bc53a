use Rattle.std.proofs.Common.{◌≡◌, ◌+◌, drop}
use Rattle.std.specs.List.{prefix_len}
use Rattle.pl_expr.specs.Grammar.{is_name_byte}
use Rattle.pl_expr.proofs.scan.count_name_bytes.Given as goal

abbrev pub invariant-loop-count : goal.invariant-loop-count
invariant-loop-count l = prefix_len is_name_byte l.bytes ≡ l.count + prefix_len is_name_byte
    (drop l.count l.bytes)
