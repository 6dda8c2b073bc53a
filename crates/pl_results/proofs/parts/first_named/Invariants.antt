use Rattle.std.proofs.Common.{◌≡◌, drop, find}
use Rattle.pl_eval.specs.Known.{same_name}
use Rattle.pl_results.proofs.parts.first_named.Given as goal

abbrev pub invariant-loop-leg : goal.invariant-loop-leg
invariant-loop-leg l =
    find (λ leg. same_name l.name leg.job) l.legs
    ≡ find (λ leg. same_name l.name leg.job) (drop l.leg-index l.legs)
