use Rattle.std.proofs.Common.{◌≡◌}
use Rattle.std.specs.List.{count_by, range_with_len}
use Rattle.pl_granting.specs.Asked.{of}
use Rattle.pl_granting.specs.Rules.{is_leg_taken}
use Rattle.pl_granting.proofs.jobs.legs_taken.Given as goal

abbrev pub invariant-loop-place : goal.invariant-loop-place
invariant-loop-place l =
    l.count ≡ count_by (is_leg_taken l.journal.facts (of l.at)) (range_with_len 0 l.place)
