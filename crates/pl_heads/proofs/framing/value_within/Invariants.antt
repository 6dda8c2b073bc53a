use Rattle.std.proofs.Common.{◌≡◌, ◌≤◌, drop}
use Rattle.pl_heads.specs.Framing.{value_behind, content_limit}
use Rattle.pl_heads.proofs.framing.value_within.Given as goal

abbrev pub invariant-loop-digit : goal.invariant-loop-digit
invariant-loop-digit l = record {
  says : value_behind l.value (drop l.digit-index l.digits) ≡ value_behind 0 l.digits;
  small : l.value ≤ content_limit;
}
