use Rattle.std.proofs.Common.{◌≡◌, ◌⊎◌, inl, inr, refl, rules}
use Rattle.pl_base.proofs.in_memory.sink.MemSinkSink.write.Goals.{then-is_full-via-then-is_full}
use Rattle.pl_base.proofs.in_memory.sink.MemSinkSink.write.Goals.{then-is_full-via-else-is_full+then-contains}
use Rattle.pl_base.proofs.in_memory.sink.MemSinkSink.write.Goals as goal

-- a refused write is listed, or there is no room
pub returns-then-is_full-clause-failing : goal.returns-then-is_full-clause-failing
returns-then-is_full-clause-failing c = (
  (λ _. elim c.then-is_full.branch [
    | then-is_full-via-then-is_full w ↦ inr (search rules)
    | then-is_full-via-else-is_full+then-contains w ↦ inl (search rules)
  ]),
  (λ _. refl),
)
