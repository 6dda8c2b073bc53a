use Rattle.pl_plan.proofs.LegNames.{made_is_as_written}
use Rattle.pl_plan.proofs.OnePlan.{made_is_planned}
use Rattle.pl_plan.proofs.Sound.{made_is_sound}
use Rattle.pl_plan.proofs.planning.plan_of.Goals as goal

pub returns-clause-sound : goal.returns-clause-sound
returns-clause-sound c = made_is_sound c.args.pipeline.now c.as_slice.result.now
    c.as_slice-2.result.now c.in_ok-plan_from.field-0 c.as_slice.ensures c.as_slice-2.ensures
    c.in_ok-legs.ensures.judged c.in_ok-judge_cycles.ensures.acyclic c.in_ok-plan_from.ensures

pub returns-clause-written : goal.returns-clause-written
returns-clause-written c = made_is_as_written c.args.pipeline.now c.as_slice.result.now
    c.in_ok-plan_from.field-0 c.as_slice.ensures c.in_ok-legs.ensures.judged
    c.in_ok-plan_from.ensures

pub returns-clause-planned : goal.returns-clause-planned
returns-clause-planned c =
    made_is_planned c.args.pipeline.now c.in_ok-plan_from.field-0 c.in_ok-plan_from.ensures
