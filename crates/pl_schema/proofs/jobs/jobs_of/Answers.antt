use Rattle.std.proofs.Common.{◌+◌, [], drop, sym, ap, ◌∙◌}
use Rattle.pl_schema_parts.specs.Names.{is_taken, taken}
use Rattle.pl_schema_parts.specs.Rows.{in_turn}
use Rattle.pl_schema.specs.Jobs.{job_in, job_names}
use Rattle.pl_schema_parts.proofs.Order.{next_turn}
use Rattle.pl_schema.proofs.Taken.{job_more}
use Rattle.pl_schema.proofs.jobs.jobs_of.Goals as goal

pub loop-item-preserved : goal.loop-item-preserved
loop-item-preserved c =
    let loop = c.loop-item in
    record {
      read =
          loop.invariant.read
          ∙ next_turn job_in job_names (taken loop.names) loop.jobs c.args.items.now loop.item-index
          c.item-item.result c.in_ok-job.job loop.invariant.names c.loop-item-test.true
          c.item-item.is c.in_ok-job.ensures
          ∙ ap (λ made. in_turn (λ made item. job_in (is_taken (job_names made)) item) made
          (drop (loop.item-index + 1) c.args.items.now)) (sym c.in_ok-push.ensures.ok);
      names = c.in_ok-take.ensures ∙ job_more (taken loop.names) loop.jobs c.in_ok-job.job
          loop.invariant.names ∙ ap (λ made. is_taken (job_names made))
          (sym c.in_ok-push.ensures.ok);
    }
