use Rattle.std.proofs.Common.{◌≡◌, ◌++◌, take}
use Rattle.pl_touched.specs.Touched.{job_places, rows_at, FitAt}
use Rattle.pl_all_rows.proofs.plans.push_jobs.Given as goal

abbrev pub invariant-loop-job : goal.invariant-loop-job
invariant-loop-job l = record {
  here : l.at ≡ l._job-index;
  rows : l.rows.items ≡ l.fn.rows.items ++
      rows_at (job_places l.run l.stage 0 (take l._job-index l.jobs)) l.journal.facts;
  fits : FitAt (job_places l.run l.stage 0 (take l._job-index l.jobs)) l.journal.facts;
}
