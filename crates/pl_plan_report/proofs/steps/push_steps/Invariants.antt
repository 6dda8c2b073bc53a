use Rattle.std.proofs.Common.{◌≡◌, ◌++◌, take}
use Rattle.std.specs.Prelude.{flat_map}
use Rattle.pl_plan_report.specs.Lines.{step_line}
use Rattle.pl_plan_report.proofs.steps.push_steps.Given as goal

abbrev pub invariant-loop-step : goal.invariant-loop-step
invariant-loop-step l =
    l.text ≡ l.initial.text ++ flat_map step_line (take l.step-index l.steps)
