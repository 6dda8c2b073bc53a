use Rattle.std.proofs.Common.{◌≡◌, drop}
use Rattle.std.specs.List.{list_all}
use Rattle.pl_limits.specs.Limits.{is_check}
use Rattle.pl_limits.proofs.checks.are_checks.Given as goal

abbrev pub invariant-loop-check : goal.invariant-loop-check
invariant-loop-check l =
    list_all is_check l.checks ≡ list_all is_check (drop l.check-index l.checks)
