use Rattle.std.proofs.Common.{◌++◌, List, ℕ, ap, ◌∙◌}
use Rattle.pl_graph.specs.Waits.{edges_of_one}
use Rattle.pl_plan.specs.declared.plan.PlanStage.{PlanStage}
use Rattle.pl_results.proofs.EdgeTurns.{edges_more}
use Rattle.pl_results.proofs.edges.stage_edges.Goals as goal

pub loop-at-preserved : goal.loop-at-preserved
loop-at-preserved c =
    edges_more (λ (stage : PlanStage). stage.depends) c.args.stages.now c.loop-at.at
    c.index-stages-at.result c.loop-at.edges c.push_edges.new.edges c.loop-at-test.true
    c.index-stages-at.is c.loop-at.invariant
    (c.in_ok-push_edges.ensures
    ∙ ap (λ (ds : List ℕ). c.loop-at.edges ++ edges_of_one c.loop-at.at ds) c.as_slice.ensures)
