use Rattle.std.proofs.Common.{◌≡◌, ◌&&◌, not, take}
use Rattle.pl_base.specs.declared.resource.ResourceKey.{ResourceKey}
use Rattle.pl_lines.specs.Lines.{stands}
use Rattle.pl_lock_queues.specs.Queues.{Place, key_cmp, place_cmp, stand_at}
use Rattle.pl_lock_queues.proofs.waiting.take_all.Given as goal

abbrev pub invariant-loop-key : goal.invariant-loop-key
invariant-loop-key l = (key : ResourceKey) (p : Place) →
    stands key_cmp place_cmp l.lines.lines key p
    ≡ (stands key_cmp place_cmp l.fn.lines.lines key p
    && not (stand_at (take l.key-index l.keys) l.place key p))
