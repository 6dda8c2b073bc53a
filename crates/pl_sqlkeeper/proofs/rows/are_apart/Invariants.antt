use Rattle.std.proofs.Common.{◌≡◌, true}
use Rattle.std.specs.List.{AllAdjacentBelow}
use Rattle.pl_keeper.specs.Keeping.{comes_before}
use Rattle.pl_sqlkeeper.proofs.rows.are_apart.Given as goal

abbrev pub invariant-loop-at : goal.invariant-loop-at
invariant-loop-at l =
    AllAdjacentBelow (λ first second. comes_before first second ≡ true) l.rows l.at
