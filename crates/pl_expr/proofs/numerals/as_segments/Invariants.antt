use Rattle.std.proofs.Common.{◌≡◌, true, take}
use Rattle.std.specs.List.{list_all}
use Rattle.pl_expr.specs.Numerals.{is_segment}
use Rattle.pl_expr.proofs.numerals.as_segments.Given as goal

abbrev pub invariant-loop-number : goal.invariant-loop-number
invariant-loop-number l = record {
  segments : l.segments ≡ take l.number-index l.number-items;
  within : list_all is_segment (take l.number-index l.number-items) ≡ true;
}
