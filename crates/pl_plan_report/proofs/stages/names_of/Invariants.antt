use Rattle.std.proofs.Common.{◌≡◌, map, take}
use Rattle.pl_plan_report.proofs.stages.names_of.Given as goal

abbrev pub invariant-loop-stage : goal.invariant-loop-stage
invariant-loop-stage l = l.names ≡ map (λ stage. stage.name) (take l.stage-index l.stages)
