use Rattle.std.proofs.Common.{take}
use Rattle.pl_claims.specs.Claims.{AreTaken}
use Rattle.pl_claims.proofs.next.taken_by.Given as goal

-- what the stages so far want is taken
abbrev pub invariant-loop-stage : goal.invariant-loop-stage
invariant-loop-stage l = AreTaken l.taken (take l.stage-index l.stages)
