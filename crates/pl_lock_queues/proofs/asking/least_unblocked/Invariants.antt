use Rattle.std.proofs.Common.{◌≡◌, ◌⊎◌, Some, is_some, true}
use Rattle.std.specs.BTreeMap.{get}
use Rattle.std.specs.BTreeSet.{contains}
use Rattle.std.specs.List.{Contains}
use Rattle.pl_base.specs.declared.resource.ResourceKey.{ResourceKey}
use Rattle.pl_lock_queues.specs.Asked.{IsClear, IsUnblockedAt, IsUpTo}
use Rattle.pl_lock_queues.specs.Queues.{Place, key_cmp, place_cmp}
use Rattle.pl_lock_queues.proofs.asking.least_unblocked.Given as goal

-- the keys that are left may have a lesser one
abbrev pub invariant-loop-key : goal.invariant-loop-key
invariant-loop-key l = record {
  is : (place : Place) → l.best ≡ Some place → (contains place_cmp l.free place ≡ true)
      ⊎ IsUnblockedAt l.eligible l.lines.lines l.marks place;
  free : (place : Place) → contains place_cmp l.free place ≡ true → IsUpTo l.best place;
  unblocked : (place : Place) (key : ResourceKey) → is_some (get key_cmp l.marks key) ≡ true →
      IsClear l.lines.lines l.marks place key →
      IsUnblockedAt l.eligible l.lines.lines l.marks place →
      Contains l.key-iterator key ⊎ IsUpTo l.best place;
}
