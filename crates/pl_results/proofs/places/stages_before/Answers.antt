use Rattle.pl_plan.specs.Laws.{waits_of_stages}
use Rattle.pl_results.proofs.Orderly.{found_all}
use Rattle.pl_results.proofs.places.stages_before.Goals as goal

pub returns : goal.returns
returns c = found_all c.ancestors.result (waits_of_stages c.args.stages.now) c.in_ok-edges.edges
    c.args.at c.in_ok-edges.ensures c.requires.orderly.below c.ancestors.ensures
