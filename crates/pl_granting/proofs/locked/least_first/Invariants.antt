use Rattle.std.proofs.Common.{◌<◌, ℕ, get_or}
use Rattle.pl_locks.specs.Locks.{ComesFirst}
use Rattle.pl_locks.specs.declared.contender.Contender.{Contender}
use Rattle.pl_granting.proofs.locked.least_first.Given as goal

-- none before this one comes first
abbrev pub invariant-loop-other : goal.invariant-loop-other
invariant-loop-other l = (k : ℕ) (d : Contender) → k < l.other-index →
    ComesFirst l.eligible (get_or l.eligible k d) l.stage → ⊥
