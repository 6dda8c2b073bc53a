use Rattle.std.proofs.Common.{◌≡◌, take}
use Rattle.pl_results.specs.Parts as spec
use Rattle.pl_results.proofs.legs.legs_at.Given as goal

abbrev pub invariant-loop-at : goal.invariant-loop-at
invariant-loop-at l =
    l.legs ≡ spec.legs_at l.fn.form l.jobs l.views (take l.at-index l.places)
