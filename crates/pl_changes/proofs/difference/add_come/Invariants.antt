use Rattle.std.proofs.Common.{◌≡◌, ◌++◌, drop, map, not}
use Rattle.std.specs.List.{filter}
use Rattle.pl_changes.specs.Differing.{come, coming, have_row}
use Rattle.pl_changes.proofs.difference.add_come.Given as goal

abbrev pub invariant-loop-row : goal.invariant-loop-row
invariant-loop-row l =
    l.changes.items ++ map coming (filter (λ row. not (have_row l.before row))
    (drop l.row-index l.behind)) ≡ l.fn.changes.items ++ map coming (come l.before l.behind)
