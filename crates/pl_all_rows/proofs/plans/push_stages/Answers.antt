use Rattle.std.proofs.Common.{◌+◌, [], ◌∷◌, ap, refl, ◌∙◌, take}
use Rattle.pl_kept.specs.Kept.{Stage}
use Rattle.pl_touched.specs.Touched.{job_places, stage_places}
use Rattle.pl_row_changes.specs.Below.pl_touching.proofs.Following.{fit_all, stages_next}
use Rattle.pl_all_rows.proofs.Pushed.{push_all}
use Rattle.pl_all_rows.proofs.plans.push_stages.Goals as goal

pub loop-stage-preserved : goal.loop-stage-preserved
loop-stage-preserved c =
    let facts = c.args.journal.now.facts in
    let are = stages_next c.args.run c.loop-stage.at c.loop-stage.stage-index c.args.stages.now
    c.stage-item.result c.loop-stage-test.true c.stage-item.is c.loop-stage.invariant.here in
    let front = stage_places c.args.run 0 (take c.loop-stage.stage-index c.args.stages.now) in
    let own = Stage c.args.run c.loop-stage.at ∷ [] in
    let jobs = job_places c.args.run c.loop-stage.at 0 c.stage-item.result.jobs in
    let both = Stage c.args.run c.loop-stage.at ∷ jobs in
    record {
      here = c.in_ok-at.ensures ∙ ap (λ n. n + 1) c.loop-stage.invariant.here;
      rows = push_all facts front both _ are c.args.rows.now.items c.loop-stage.rows.items
          c.push_jobs.new.rows.items c.loop-stage.invariant.rows
          (push_all facts own jobs both refl c.loop-stage.rows.items c.push_at.new.rows.items
          c.push_jobs.new.rows.items c.in_ok-push_at.ensures.rows
          (rw (← c.as_slice.ensures) c.in_ok-push_jobs.ensures.rows));
      fits = fit_all facts front both _ are c.loop-stage.invariant.fits
          (fit_all facts own jobs both refl c.in_ok-push_at.ensures.fits
          (rw (← c.as_slice.ensures) c.in_ok-push_jobs.ensures.fits));
    }
