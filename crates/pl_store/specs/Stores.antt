-- What a store tells: its rows, how many of its calls failed, and what its database may keep.
use Rattle.std.specs.Prelude.{◌≡◌, ℕ, List, [], Option, Some, None}
use Rattle.sqlite.specs.Store.{Ghosts}
use Rattle.sqlite.specs.Held.{Held, state}
use Rattle.pl_base.specs.declared.row.Row.{Row}
use Rattle.pl_sqlkeeper.specs.Keeper.{Keeping}
use Rattle.pl_sqlkeeper.specs.Kept.{told_by}
use Rattle.pl_store.specs.declared.store.RowStore.{RowStore}
use Rattle.pl_store.specs.declared.store.RowStore.TheVariants.{Memory, Database}

-- the rows in memory, or those of the database while it is open
abbrev pub told_of : {S : Type 0} → Ghosts S → RowStore S → Option (List Row)
told_of g (Memory keeper) = Some keeper.rows.items
told_of g (Database keeper) = told_by (state g keeper.conn)

abbrev pub faults_of : {S : Type 0} → RowStore S → ℕ
faults_of (Memory keeper) = keeper.faults
faults_of (Database keeper) = keeper.faults

-- the keeper of the database, where the rows are in one
abbrev pub database_of : {S : Type 0} → RowStore S → Option (Keeping S)
database_of (Memory keeper) = None
database_of (Database keeper) = Some keeper

-- rows stay where they are kept, and in a database the fact holds of it before and after
abbrev pub InDatabase : {S : Type 0} → RowStore S → RowStore S → (Held S → Held S → Type 0) → Type 0
InDatabase (Memory old) (Memory new) fact = Unit {0}
InDatabase (Memory old) (Database new) fact = ⊥
InDatabase (Database old) (Memory new) fact = ⊥
InDatabase (Database old) (Database new) fact = fact old.conn new.conn

-- the rows are in a database, of whose connection the fact holds
abbrev pub IsOver : {S : Type 0} → (Held S → Type 0) → RowStore S → Type 0
IsOver fact (Memory keeper) = ⊥
IsOver fact (Database keeper) = fact keeper.conn

-- the rows are in memory, and no call of their keeper is to fail
abbrev pub NeverFails : {S : Type 0} → RowStore S → Type 0
NeverFails (Memory keeper) = keeper.failing ≡ []
NeverFails (Database keeper) = ⊥
