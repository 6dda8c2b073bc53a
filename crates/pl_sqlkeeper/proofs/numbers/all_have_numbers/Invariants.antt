use Rattle.std.proofs.Common.{drop}
use Rattle.std.specs.List.{AllByRecursion}
use Rattle.pl_sqlkeeper.specs.Kept.{HasNumber}
use Rattle.pl_sqlkeeper.proofs.numbers.all_have_numbers.Given as goal

abbrev pub invariant-loop-row : goal.invariant-loop-row
invariant-loop-row l =
    AllByRecursion HasNumber (drop l.row-index l.stored) → AllByRecursion HasNumber l.stored
