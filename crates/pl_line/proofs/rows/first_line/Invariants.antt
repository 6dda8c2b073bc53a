use Rattle.std.proofs.Common.{◌≡◌, ◌+◌, ◌==◌, ◌<◌, None, length, take, drop}
use Rattle.std.specs.Prelude.{chars}
use Rattle.std.specs.List.{position_or_len, last_or}
use Rattle.pl_line.specs.Rows as rows
use Rattle.pl_line.specs.Rows.{is_return}
use Rattle.pl_line.proofs.rows.first_line.Given as goal

abbrev pub invariant-loop-c : goal.invariant-loop-c
invariant-loop-c l = record {
  value : l.len + position_or_len (λ c. c == 10) (chars l.rest.text.now) ≡
      position_or_len (λ c. c == 10) (chars l.text);
  within : l.len + length (chars l.rest.text.now) ≡ length (chars l.text);
  left : chars l.rest.text.now ≡ drop l.len (chars l.text);
  place : l.readable ≡ position_or_len rows.is_control (chars l.text);
  later : l.readable < l.len;
  returned : l.returned ≡ is_return (last_or None (take l.len (chars l.text)));
}

abbrev pub decreases-loop-c : goal.decreases-loop-c
decreases-loop-c l = length (chars l.rest.text.now)
