-- Which counts of faults a run raised.
use Rattle.std.specs.Prelude.{◌≡◌, ◌⊎◌, ℕ, zero, suc}
use Rattle.pl_base.specs.Counts.{one_more}
use Rattle.pl_outfit.specs.declared.status.Status.{Status}
use Rattle.pl_outfit.specs.declared.status.Status.TheVariants as status

-- a count after so many more
abbrev pub more : ℕ → ℕ → ℕ
more zero count = count
more (suc times) count = one_more (more times count)

-- a status names a fault of the source or the sink exactly where that count rose
abbrev pub ReadsCounted : Status → ℕ → ℕ → Type 0
ReadsCounted status.ReadFault old new = new ≡ one_more old
ReadsCounted other old new = new ≡ old

abbrev pub WritesCounted : Status → ℕ → ℕ → Type 0
WritesCounted status.WriteFault old new = new ≡ one_more old
WritesCounted status.Usage old new = (new ≡ old) ⊎ (new ≡ one_more old)
WritesCounted other old new = new ≡ old

-- A store that couldn't be opened is a fault that was counted. Else one is counted at most, where
-- the store that was handed back had counted some.
abbrev pub StoresCounted : Status → ℕ → ℕ → Type 0
StoresCounted status.KeeperFault old new = new ≡ one_more old
StoresCounted other old new = (new ≡ old) ⊎ (new ≡ one_more old)

-- a status names a fault of a door only where that count rose
abbrev pub DoorsCounted : Status → ℕ → ℕ → Type 0
DoorsCounted status.ListenerFault old new = (times : ℕ) × (new ≡ one_more (more times old))
DoorsCounted other old new = (times : ℕ) × (new ≡ more times old)
