use Rattle.pl_run_laws.proofs.ByRuns.{due_of_all}
use Rattle.pl_run_laws.specs.ByRuns.{by_locks, kinds}
use Rattle.pl_run_laws.proofs.by_runs.by_runs_laws.Goals as goal

pub returns : goal.returns
returns c = record {
  due = λ facts moment found first due firsts least by.
      due_of_all facts 0 (kinds facts moment) (by_locks facts moment) found due first firsts least by;
}
