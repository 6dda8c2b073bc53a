use Rattle.std.proofs.Common.{◌<◌, ℕ, get_or}
use Rattle.std.specs.List.{Contains}
use Rattle.pl_locks.specs.declared.contender.Contender.{Contender}
use Rattle.pl_granting.proofs.locked.holder_of.Given as goal

-- no stage before this one has the resource
abbrev pub invariant-loop-stage : goal.invariant-loop-stage
invariant-loop-stage l = (k : ℕ) (d : Contender) → k < l.stage-index →
    Contains (get_or l.holders k d).resources l.key → ⊥
