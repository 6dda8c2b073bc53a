use Rattle.std.proofs.Common.{◌≡◌, ◌++◌, take}
use Rattle.std.specs.Prelude.{flat_map}
use Rattle.pl_plan_report.specs.Lines.{stage_text}
use Rattle.pl_plan_report.proofs.stages.push_each_stage.Given as goal

abbrev pub invariant-loop-stage : goal.invariant-loop-stage
invariant-loop-stage l =
    l.text ≡ l.initial.text ++ flat_map (stage_text l.names) (take l.stage-index l.stages)
