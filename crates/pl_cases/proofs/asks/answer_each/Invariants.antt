use Rattle.pl_cases.proofs.asks.answer_each.Given as goal

-- the function may be called again
abbrev pub invariant-loop-ask : goal.invariant-loop-ask
invariant-loop-ask g l =
    (goal.iterator-loop-ask g).can_next l.ask-iterator
    × ((goal.iterator-loop-ask g).is_finite l.ask-iterator × goal.F-IsAlwaysCallable g l.answer)
