use Rattle.std.proofs.Common.{◌≡◌}
use Rattle.pl_journal.specs.Log.{empty}
use Rattle.pl_core.proofs.opening.begun.Given as goal

abbrev pub invariant-loop-fact : goal.invariant-loop-fact
invariant-loop-fact l =
    l.journal ≡ record (empty l.fn.admin) { facts = l.yielded }
