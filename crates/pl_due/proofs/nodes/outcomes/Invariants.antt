use Rattle.std.proofs.Common.{◌≡◌}
use Rattle.std.specs.List.{filter_map, range_with_len}
use Rattle.pl_journal.specs.Runs.{job_ending, outcome_told}
use Rattle.pl_journal.specs.Settings.{by}
use Rattle.pl_due.specs.Asked.{facts_of}
use Rattle.pl_due.proofs.nodes.outcomes.Given as goal

abbrev pub invariant-loop-job : goal.invariant-loop-job
invariant-loop-job l = l.all ≡ filter_map
    (λ job. by outcome_told (job_ending l.at.run l.at.stage job (facts_of l.at)))
    (range_with_len 0 l.job)
