use Rattle.std.proofs.Common.{◌≡◌, cond, is_some, take}
use Rattle.std.specs.BTreeMap.{get}
use Rattle.std.specs.List.{list_any}
use Rattle.pl_base.specs.declared.resource.ResourceKey.{ResourceKey}
use Rattle.pl_lock_queues.specs.Queues.{among, key_cmp, marked, wants}
use Rattle.pl_lock_queues.proofs.marks.mark_anew.Given as goal

abbrev pub invariant-loop-key : goal.invariant-loop-key
invariant-loop-key l = record {
  so_far : (other : ResourceKey) → marked l.marks other
      ≡ cond (among (take l.key-index l.keys) other) (list_any (wants other) l.holders)
      (marked l.fn.marks other);
  kept : (other : ResourceKey) →
      is_some (get key_cmp l.marks other) ≡ is_some (get key_cmp l.fn.marks other);
}
