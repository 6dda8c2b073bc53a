use Rattle.std.proofs.Common.{◌≡◌, ◌++◌}
use Rattle.std.specs.List.{filter_map, range_with_len}
use Rattle.pl_due.specs.Asked.{facts_of}
use Rattle.pl_looks.specs.Jobs.{ready_job, taken_job}
use Rattle.pl_looks.proofs.jobs.push_stage.Given as goal

abbrev pub invariant-loop-job : goal.invariant-loop-job
invariant-loop-job l = record {
  ready : l.ready ≡ l.fn.ready ++ filter_map
      (ready_job (facts_of l.at) l.at.planned.now l.at.run l.at.stage) (range_with_len 0 l.job);
  taken : l.taken ≡ l.fn.taken ++ filter_map
      (taken_job (facts_of l.at) l.at.planned.now l.at.run l.at.stage) (range_with_len 0 l.job);
}
