use Rattle.std.proofs.Common.{◌≡◌, ◌+◌, length, drop}
use Rattle.std.specs.Prelude.{chars}
use Rattle.std.specs.List.{position_or_len}
use Rattle.pl_line.specs.Rows as rows
use Rattle.pl_line.proofs.rows.to_control.Given as goal

abbrev pub invariant-loop-c : goal.invariant-loop-c
invariant-loop-c l = record {
  value : l.count + position_or_len rows.is_control (chars l.rest.text.now) ≡
      position_or_len rows.is_control (chars l.fn.rest.text.now);
  within : l.count + length (chars l.rest.text.now) ≡ length (chars l.fn.rest.text.now);
  left : chars l.rest.text.now ≡ drop l.count (chars l.fn.rest.text.now);
}

abbrev pub decreases-loop-c : goal.decreases-loop-c
decreases-loop-c l = length (chars l.rest.text.now)
