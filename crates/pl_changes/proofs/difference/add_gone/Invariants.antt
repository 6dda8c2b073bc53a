use Rattle.std.proofs.Common.{◌≡◌, ◌++◌, drop, map, not}
use Rattle.std.specs.List.{filter}
use Rattle.pl_changes.specs.Differing.{going, gone, have_place}
use Rattle.pl_changes.proofs.difference.add_gone.Given as goal

abbrev pub invariant-loop-row : goal.invariant-loop-row
invariant-loop-row l =
    l.changes.items ++ map going (filter (λ row. not (have_place l.behind row))
    (drop l.row-index l.before)) ≡ l.fn.changes.items ++ map going (gone l.before l.behind)
