use Rattle.pl_plan.proofs.OneAnswer.{one_answer}
use Rattle.pl_plan.proofs.OnePlan.{one_plan}
use Rattle.pl_plan.proofs.laws.plan_laws.Goals as goal

pub returns-clause-one : goal.returns-clause-one
returns-clause-one c = one_answer

pub returns-clause-pinned : goal.returns-clause-pinned
returns-clause-pinned c = one_plan
