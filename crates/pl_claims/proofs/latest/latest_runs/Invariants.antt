use Rattle.std.proofs.Common.{take}
use Rattle.pl_claims.specs.Claims.{AreLast}
use Rattle.pl_claims.proofs.latest.latest_runs.Given as goal

-- the latest runs of the stages so far are written down
abbrev pub invariant-loop-stage : goal.invariant-loop-stage
invariant-loop-stage l = AreLast l.latest (take l.stage-index l.stages)
