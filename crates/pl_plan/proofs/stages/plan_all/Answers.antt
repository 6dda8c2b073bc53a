use Rattle.std.proofs.Common.{◌<◌, length, map, rules}
use Rattle.pl_plan.specs.Legs.{all_legs, legs_written}
use Rattle.pl_plan.proofs.KeptLegs.{same_at}
use Rattle.pl_plan.proofs.stages.plan_all.Goals as goal

pub plan_stage-requires : goal.plan_stage-requires
plan_stage-requires c =
    let stages = c.as_slice-stage-items.result.now in
    let within : c.loop-at.at < length stages = c.loop-at-test.true in
    let same = same_at (map all_legs) legs_written c.args.legs.now stages c.loop-at.at
    c.index-legs-at.result c.stage-item.result (search (rules, c.requires)) within in
    search (rules, same)
