use Rattle.std.proofs.Common.{◌<◌, ℕ, get_or}
use Rattle.pl_locks.specs.declared.contender.Contender.{Contender}
use Rattle.pl_locks.specs.Locks.{IsSuperseded}
use Rattle.pl_claims.proofs.latest.any_superseded.Given as goal

-- none so far gives way
abbrev pub invariant-loop-stage : goal.invariant-loop-stage
invariant-loop-stage l = (k : ℕ) (d : Contender) → k < l.stage-index →
    IsSuperseded l.eligible (get_or l.eligible k d) → ⊥
