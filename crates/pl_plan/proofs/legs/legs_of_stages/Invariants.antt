use Rattle.std.proofs.Common.{◌≡◌, drop, take}
use Rattle.pl_depends.specs.Gives.{each_passes}
use Rattle.pl_plan.specs.Legs.{AreLegsIn, legs_judged}
use Rattle.pl_plan.proofs.legs.legs_of_stages.Given as goal

abbrev pub invariant-loop-stage : goal.invariant-loop-stage
invariant-loop-stage l = record {
  judged : each_passes (λ stage. each_passes legs_judged stage.jobs) l.stages ≡ each_passes
      (λ stage. each_passes legs_judged stage.jobs) (drop l.stage-index l.stages);
  kept : AreLegsIn (take l.stage-index l.stages) l.kept;
}
