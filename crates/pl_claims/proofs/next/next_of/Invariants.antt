use Rattle.std.proofs.Common.{◌<◌, ◌++◌, ℕ, get_or, take}
use Rattle.pl_claims.specs.Claims.{AreTaken}
use Rattle.pl_locks.specs.declared.contender.Contender.{Contender}
use Rattle.pl_locks.specs.Locks.{MayStart}
use Rattle.pl_claims.proofs.next.next_of.Given as goal

-- none so far may start, and what they and the holders want is taken
abbrev pub invariant-loop-stage : goal.invariant-loop-stage
invariant-loop-stage l = record {
  none : (k : ℕ) (d : Contender) → k < l.stage-index →
      MayStart l.eligible l.holders (get_or l.eligible k d) → ⊥;
  taken : AreTaken l.taken (l.holders ++ take l.stage-index l.eligible);
}
