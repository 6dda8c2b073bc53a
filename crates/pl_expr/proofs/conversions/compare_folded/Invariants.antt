use Rattle.std.proofs.Common.{◌≡◌, ◌≤◌, length, drop}
use Rattle.std.specs.Ordering.{nat_cmp}
use Rattle.std.specs.Cmp.Lexicographic.{slice_cmp}
use Rattle.pl_base.specs.Folding.{folded}
use Rattle.pl_expr.proofs.conversions.compare_folded.Given as goal

abbrev pub invariant-loop-index : goal.invariant-loop-index
invariant-loop-index l = record {
  within : l.index ≤ length l.right;
  same : slice_cmp nat_cmp (folded l.left) (folded l.right) ≡
      slice_cmp nat_cmp (folded (drop l.index l.left)) (folded (drop l.index l.right));
}
