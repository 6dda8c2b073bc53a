use Rattle.std.proofs.Common.{◌≡◌, drop}
use Rattle.std.specs.Prelude.{flat_map}
use Rattle.pl_uses.specs.Uses.{kept, put_all, step_uses}
use Rattle.pl_uses.proofs.uses.put_steps.Given as goal

abbrev pub invariant-loop-step : goal.invariant-loop-step
invariant-loop-step l =
    put_all (kept l.uses) (flat_map (step_uses l.repositories) (drop l.step-index l.steps)) ≡
    put_all (kept l.initial.uses) (flat_map (step_uses l.repositories) l.steps)
