use Rattle.pl_expr.proofs.Bytes.{runs_end, runs_step, behind_step}
use Rattle.pl_expr.proofs.numerals.read_runs.Goals as goal

pub returns-in-None-clause-numbers : goal.returns-in-None-clause-numbers
returns-in-None-clause-numbers c = runs_end c.loop-turn._turn c.loop-turn.behind.now
    c.loop-turn.numbers _ c.in-None.ensures c.loop-turn.invariant.values

pub loop-turn-preserved : goal.loop-turn-preserved
loop-turn-preserved c = record {
  values = runs_step c.loop-turn._turn c.loop-turn.behind.now _ _ c.loop-turn.numbers _ _ _
      c.loop-turn-test.true c.in-Some.ensures.0 c.in-Some.ensures.1
      c.skip_digits-behind-in-Some.ensures c.leading_number-in-Some.ensures
      c.in_ok-push-in-Some.ensures.ok c.loop-turn.invariant.values;
  rest = behind_step c.loop-turn._turn c.loop-turn.behind.now _ _ _ c.loop-turn-test.true
      c.in-Some.ensures.0 c.in-Some.ensures.1 c.skip_digits-behind-in-Some.ensures
      c.loop-turn.invariant.rest;
  text = c.skip_digits-behind-in-Some.utf8;
}
