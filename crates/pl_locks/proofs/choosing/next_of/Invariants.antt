use Rattle.std.proofs.Common.{◌<◌, ℕ, get_or}
use Rattle.pl_locks.specs.declared.contender.Contender.{Contender}
use Rattle.pl_locks.specs.Locks.{MayStart}
use Rattle.pl_locks.proofs.choosing.next_of.Given as goal

-- no stage before this one may start
abbrev pub invariant-loop-stage : goal.invariant-loop-stage
invariant-loop-stage l =
    (k : ℕ) (d : Contender) → k < l.stage-index → MayStart l.eligible l.holders
    (get_or l.eligible k d) → ⊥
