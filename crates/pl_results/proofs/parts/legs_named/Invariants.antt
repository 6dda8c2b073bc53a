use Rattle.std.proofs.Common.{◌≡◌, take}
use Rattle.std.specs.List.{filter}
use Rattle.pl_eval.specs.Known.{same_name}
use Rattle.pl_results.proofs.parts.legs_named.Given as goal

abbrev pub invariant-loop-leg : goal.invariant-loop-leg
invariant-loop-leg l =
    l.some ≡ filter (λ leg. same_name l.name leg.job) (take l.leg-index l.legs)
