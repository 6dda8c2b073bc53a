-- What the queues tell of a stage in whose way nothing may stand.
use Rattle.std.specs.Prelude.{◌≡◌, Bool, false, List, All, Contains, Option, Some, None}
use Rattle.std.specs.BTreeMap.{BTreeMap}
use Rattle.std.specs.BTreeSet.{BTreeSet}
use Rattle.std.specs.declared.cmp.Ordering.TheVariants.{Less}
use Rattle.pl_base.specs.declared.resource.ResourceKey.{ResourceKey}
use Rattle.pl_lines.specs.Lines.{IsFirstIn}
use Rattle.pl_locks.specs.declared.contender.Contender.{Contender}
use Rattle.pl_lock_queues.specs.Queues.{Place, key_cmp, marked, place_cmp, place_of}

-- nobody holds the resource, and the place is the first in its line
pub record IsClear (lines : BTreeMap ResourceKey (BTreeSet Place))
    (marks : BTreeMap ResourceKey Bool) (place : Place) (key : ResourceKey) : Type 0 where
  pub free : marked marks key ≡ false
  pub first : IsFirstIn key_cmp place_cmp lines key place

-- so it is at each resource that the eligible stage at the place wants
abbrev pub IsUnblockedAt : List Contender → BTreeMap ResourceKey (BTreeSet Place) →
    BTreeMap ResourceKey Bool → Place → Type 0
IsUnblockedAt eligible lines marks place = (stage : Contender) × Contains eligible stage
    × (place_of stage ≡ place) × All (IsClear lines marks place) stage.resources

-- there is a place, and the other isn't before it
abbrev pub IsUpTo : Option Place → Place → Type 0
IsUpTo None other = ⊥
IsUpTo (Some place) other = ¬ (place_cmp other place ≡ Less)
