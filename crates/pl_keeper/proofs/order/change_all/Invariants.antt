use Rattle.std.proofs.Common.{◌≡◌, ◌≤◌, ◌+◌, reverse, vec_len}
use Rattle.std.specs.Vec.{vec_capacity}
use Rattle.pl_keeper.specs.Keeping.{all_changed, IsInOrder}
use Rattle.pl_keeper.proofs.order.change_all.Given as goal

abbrev pub invariant-loop-change : goal.invariant-loop-change
invariant-loop-change l = record {
  rows : all_changed (reverse l.left.items) l.rows.items ≡
      all_changed l.fn.changes.items l.fn.rows.items;
  order : IsInOrder l.rows.items;
  room : vec_len l.rows + vec_len l.left ≤ vec_capacity l.rows;
}

abbrev pub decreases-loop-change : goal.decreases-loop-change
decreases-loop-change l = vec_len l.left
