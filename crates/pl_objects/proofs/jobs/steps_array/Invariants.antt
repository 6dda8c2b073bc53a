use Rattle.std.proofs.Common.{◌≡◌, map, take}
use Rattle.pl_objects.specs.Steps.{step_object}
use Rattle.pl_objects.proofs.jobs.steps_array.Given as goal

abbrev pub invariant-loop-step : goal.invariant-loop-step
invariant-loop-step l = l.items ≡ map step_object (take l.step-index l.step-items)
