use Rattle.std.proofs.Common.{◌+◌, [], ◌∷◌, ap, ◌∙◌, take}
use Rattle.pl_kept.specs.Kept.{Job}
use Rattle.pl_touched.specs.Touched.{job_places}
use Rattle.pl_row_changes.specs.Below.pl_touching.proofs.Following.{fit_all, jobs_next}
use Rattle.pl_all_rows.proofs.Pushed.{push_all}
use Rattle.pl_all_rows.proofs.plans.push_jobs.Goals as goal

pub loop-job-preserved : goal.loop-job-preserved
loop-job-preserved c =
    let facts = c.args.journal.now.facts in
    let are = jobs_next c.args.run c.args.stage c.loop-job.at c.loop-job._job-index c.args.jobs.now
    c._job-item.result c.loop-job-test.true c.loop-job.invariant.here in
    let one = job_places c.args.run c.args.stage 0 (take c.loop-job._job-index c.args.jobs.now) in
    let two = Job c.args.run c.args.stage c.loop-job.at ∷ [] in
    record {
      here = c.in_ok-at.ensures ∙ ap (λ n. n + 1) c.loop-job.invariant.here;
      rows = push_all facts one two _ are c.args.rows.now.items c.loop-job.rows.items
          c.push_at.new.rows.items c.loop-job.invariant.rows c.in_ok-push_at.ensures.rows;
      fits = fit_all facts one two _ are c.loop-job.invariant.fits c.in_ok-push_at.ensures.fits;
    }
