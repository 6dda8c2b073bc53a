use Rattle.std.proofs.Common.{◌≡◌}
use Rattle.pl_turn.proofs.stepping.await_turn.Given as goal

abbrev pub invariant-loop : goal.invariant-loop
invariant-loop g l = record {
  own : l.token.table_id ≡ l.initial.token.table_id;
  place : l.token.id ≡ l.initial.token.id;
  same : l.token.me ≡ l.initial.token.me;
}
