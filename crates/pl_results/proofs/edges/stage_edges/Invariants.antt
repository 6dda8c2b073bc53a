use Rattle.std.proofs.Common.{◌≡◌, take}
use Rattle.pl_graph.specs.Waits.{edges_by}
use Rattle.pl_plan.specs.Laws.{waits_of_stages}
use Rattle.pl_results.proofs.edges.stage_edges.Given as goal

abbrev pub invariant-loop-at : goal.invariant-loop-at
invariant-loop-at l = l.edges ≡ edges_by 0 (waits_of_stages (take l.at l.stages))
