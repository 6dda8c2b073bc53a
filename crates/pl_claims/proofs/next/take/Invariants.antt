use Rattle.std.proofs.Common.{◌≡◌, ◌||◌, take}
use Rattle.std.specs.BTreeMap.{is_at}
use Rattle.std.specs.BTreeSet.{contains}
use Rattle.std.specs.List.{list_any}
use Rattle.pl_base.specs.declared.resource.ResourceKey.{ResourceKey}
use Rattle.pl_claims.specs.Claims.{key_cmp}
use Rattle.pl_claims.proofs.next.take.Given as goal

-- the keys so far are taken besides
abbrev pub invariant-loop-key : goal.invariant-loop-key
invariant-loop-key l = (key : ResourceKey) → contains key_cmp l.taken key
    ≡ (contains key_cmp l.fn.taken key
    || list_any (λ own. is_at (key_cmp own) key) (take l.key-index l.key-items))
