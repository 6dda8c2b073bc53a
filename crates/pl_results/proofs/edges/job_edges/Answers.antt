use Rattle.std.proofs.Common.{◌++◌, List, ℕ, ap, ◌∙◌}
use Rattle.pl_graph.specs.Waits.{edges_of_one}
use Rattle.pl_plan.specs.declared.plan.PlanJob.{PlanJob}
use Rattle.pl_results.proofs.EdgeTurns.{edges_more}
use Rattle.pl_results.proofs.edges.job_edges.Goals as goal

pub loop-at-preserved : goal.loop-at-preserved
loop-at-preserved c =
    edges_more (λ (job : PlanJob). job.depends) c.args.jobs.now c.loop-at.at
    c.index-jobs-at.result c.loop-at.edges c.push_edges.new.edges c.loop-at-test.true
    c.index-jobs-at.is c.loop-at.invariant
    (c.in_ok-push_edges.ensures
    ∙ ap (λ (ds : List ℕ). c.loop-at.edges ++ edges_of_one c.loop-at.at ds)
    (c.as_slice.ensures ∙ c.deref.ensures))
