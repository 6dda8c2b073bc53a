use Rattle.std.proofs.Common.{◌≡◌, is_some, take, true}
use Rattle.std.specs.BTreeMap.{get}
use Rattle.pl_base.specs.declared.resource.ResourceKey.{ResourceKey}
use Rattle.pl_lock_queues.specs.Queues.{among, key_cmp, marked}
use Rattle.pl_lock_queues.proofs.marks.make_marks.Given as goal

abbrev pub invariant-loop-key : goal.invariant-loop-key
invariant-loop-key l = record {
  same : (other : ResourceKey) → marked l.marks other ≡ marked l.fn.marks other;
  kept : (other : ResourceKey) → is_some (get key_cmp l.fn.marks other) ≡ true →
      is_some (get key_cmp l.marks other) ≡ true;
  made : (other : ResourceKey) → among (take l.key-index l.keys) other ≡ true →
      is_some (get key_cmp l.marks other) ≡ true;
}
