use Rattle.pl_step_origins.proofs.Planned.{extend_same, stand}
use Rattle.pl_step_origins.proofs.laws.steps_stand_in_the_tree.Goals as goal

pub returns-clause-steps : goal.returns-clause-steps
returns-clause-steps c = stand

pub returns-clause-extends : goal.returns-clause-extends
returns-clause-extends c = extend_same
