use Rattle.std.proofs.Common.{◌≡◌, ◌++◌}
use Rattle.pl_printing.specs.Levels.{spaces}
use Rattle.pl_printing.proofs.lines.push_indentation.Given as goal

abbrev pub invariant-loop-done : goal.invariant-loop-done
invariant-loop-done l = l.output.items ≡ l.fn.output.items ++ spaces l._done
