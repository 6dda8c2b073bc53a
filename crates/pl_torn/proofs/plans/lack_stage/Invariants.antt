use Rattle.std.proofs.Common.{◌≡◌, drop}
use Rattle.pl_torn.specs.Plans as spec
use Rattle.pl_torn.proofs.plans.lack_stage.Given as goal

abbrev pub invariant-loop-stage : goal.invariant-loop-stage
invariant-loop-stage l = record {
  here : l.at ≡ l.stage-index;
  left : spec.lack_stage l.all l.run l.stage-index (drop l.stage-index l.stages) ≡
      spec.lack_stage l.all l.run 0 l.stages;
}
