use Rattle.std.proofs.Common.{◌≡◌, take}
use Rattle.pl_changes.specs.Differing.{Apart, Joins}
use Rattle.pl_touched.specs.Touched.{job_places, rows_at, FitAt}
use Rattle.pl_touching.proofs.plans.add_jobs.Given as goal

abbrev pub invariant-loop-job : goal.invariant-loop-job
invariant-loop-job l = record {
  here : l.at ≡ l._job-index;
  apart : Apart l.fn.rows.items → Apart l.rows.items;
  joins : Joins l.fn.rows.items
      (rows_at (job_places l.run l.stage 0 (take l._job-index l.jobs)) l.journal.facts)
      l.rows.items;
  fits : FitAt (job_places l.run l.stage 0 (take l._job-index l.jobs)) l.journal.facts;
}
