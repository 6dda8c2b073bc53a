use Rattle.std.proofs.Common.{◌≡◌, map, take, decimal}
use Rattle.std.specs.List.{join_with_byte}
use Rattle.pl_expr.proofs.conversions.version_text.Given as goal

abbrev pub invariant-loop-index : goal.invariant-loop-index
invariant-loop-index l = l.text ≡ join_with_byte 46 (map decimal (take l.index l.segment-items))
