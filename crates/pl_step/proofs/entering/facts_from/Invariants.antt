use Rattle.std.proofs.Common.{◌≡◌, take, drop}
use Rattle.pl_step.proofs.entering.facts_from.Given as goal

abbrev pub invariant-loop-at : goal.invariant-loop-at
invariant-loop-at l = l.facts ≡ drop l.fn.from (take l.at l.journal.facts)
