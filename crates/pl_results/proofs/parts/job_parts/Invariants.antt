use Rattle.std.proofs.Common.{◌≡◌, ◌++◌, drop, map, take}
use Rattle.pl_results.specs.Parts as spec
use Rattle.pl_results.specs.Parts.{job_part, names_of, once_behind}
use Rattle.pl_results.proofs.parts.job_parts.Given as goal

abbrev pub invariant-loop-at : goal.invariant-loop-at
invariant-loop-at l = l.parts ++ map (job_part l.legs)
    (once_behind (names_of (take l.at l.legs)) (names_of (drop l.at l.legs))) ≡
    spec.job_parts l.legs
