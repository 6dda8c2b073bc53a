use Rattle.std.proofs.Common.{◌≡◌, ◌||◌, is_some, take}
use Rattle.std.specs.BTreeMap.{get}
use Rattle.pl_base.specs.declared.resource.ResourceKey.{ResourceKey}
use Rattle.pl_lock_queues.specs.Queues.{among, key_cmp, marked}
use Rattle.pl_lock_queues.proofs.marks.hold_all.Given as goal

abbrev pub invariant-loop-key : goal.invariant-loop-key
invariant-loop-key l = record {
  so_far : (other : ResourceKey) → marked l.marks other
      ≡ (marked l.fn.marks other || among (take l.key-index l.keys) other);
  kept : (other : ResourceKey) →
      is_some (get key_cmp l.marks other) ≡ is_some (get key_cmp l.fn.marks other);
}
