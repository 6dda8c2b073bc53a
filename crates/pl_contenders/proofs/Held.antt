-- The next stage, once it holds its resources.
use Rattle.std.proofs.Common.{ℕ, List}
use Rattle.std.specs.List.{Any, Contains}
use Rattle.std.proofs.lemmas.List.Elements.{All-contains}
use Rattle.pl_locks.specs.Kept.{IsAbsent, IsKept, IsPutIn, without}
use Rattle.pl_locks.specs.Locks.{IsAt, IsNext}
use Rattle.pl_locks.specs.declared.contender.Contender.{Contender}
use Rattle.pl_locks.proofs.Keeping.{kept_next}
use Rattle.pl_lock_queues.proofs.Moving.{any_of}

module _ (eligible holders : List Contender) (run position : ℕ) where
  abbrev Told : Type 0
  Told = (stage : Contender) × IsNext eligible holders stage × IsAt run position stage

  pub stands_there : Told → Any (IsAt run position) eligible
  stands_there (stage, next, at) = any_of (IsAt run position) eligible stage next.is_eligible at

  pub is_new_holder : IsKept eligible holders → Told → IsAbsent run position holders
  is_new_holder kept (stage, next, (r, p)) =
      rw (← r, ← p) (All-contains (λ (one : Contender). IsAbsent one.run one.position holders)
      eligible stage kept.distinct next.is_eligible)

  pub taken_stage : (more : List Contender) → IsKept eligible holders → Told →
      ((stage : Contender) → Contains eligible stage → IsAt run position stage →
      IsPutIn stage holders more) → IsKept (without run position eligible) more
  taken_stage more kept (stage, next, at) put =
      kept_next run position eligible holders more stage kept (stage, next, at)
      next.is_eligible at (put stage next.is_eligible at)
