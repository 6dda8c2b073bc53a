use Rattle.std.proofs.Common.{◌≡◌, map}
use Rattle.std.specs.List.{range_with_len}
use Rattle.pl_journal.specs.Runs.{outcome_told, stage_end}
use Rattle.pl_journal.specs.Settings.{by}
use Rattle.pl_views.proofs.run_views.stage_results.Given as goal

abbrev pub invariant-loop-at : goal.invariant-loop-at
invariant-loop-at l = l.results ≡
    map (λ stage. by outcome_told (stage_end l.fn.run stage l.journal.facts))
    (range_with_len 0 l.at)
