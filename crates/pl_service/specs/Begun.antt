-- How a service begins: with what its rows tell.
use Rattle.std.specs.Prelude.{◌≡◌, ℕ, List, [], Option, IfSome}
use Rattle.pl_base.specs.Counts.{one_more}
use Rattle.pl_base.specs.declared.digest.Digest.{Digest}
use Rattle.pl_base.specs.declared.row.Row.{Row}
use Rattle.pl_keeper.specs.Keeping.{IsInOrder, WhereTold}
use Rattle.pl_keeper.specs.declared.fault.KeeperFault.{KeeperFault}
use Rattle.pl_keeper.specs.declared.fault.KeeperFault.TheVariants as keeper
use Rattle.pl_keeper.specs.declared.keeper.Keeper as the_keeper
use Rattle.pl_opening.specs.Opening.{IsOpenCore, IsTornAt}
use Rattle.pl_opening.specs.declared.fault.RowsFault.{RowsFault}
use Rattle.pl_opening.specs.declared.fault.RowsFault.TheVariants as rows
use Rattle.pl_service.specs.Past.{Past}
use Rattle.pl_service.specs.Rows.{AreSame, state_of}
use Rattle.pl_service.specs.declared.fault.OpenFault.{OpenFault}
use Rattle.pl_service.specs.declared.fault.OpenFault.TheVariants as fault
use Rattle.pl_service.specs.declared.opening.Unopened.{Unopened}

-- the rows that a keeper gave: those that it tells, where it tells them
abbrev pub AreGiven : Option (List Row) → List Row → Type 0
AreGiven told rows = IfSome told (λ held. rows ≡ held)

-- it is opened with the rows that the keeper gave, and nothing has happened since
pub record IsBegun (admin : Digest) (told : Option (List Row)) (past : Past) : Type 0 where
  pub rows : List Row
  pub given : AreGiven told rows
  pub ordered : IsInOrder rows
  pub opened : IsOpenCore admin rows (state_of past)

-- the causes, by the rows that are told and the counts of faults: a row is torn, the keeper failed,
-- or memory was wanting
abbrev pub Fails : Digest → Option (List Row) → ℕ → ℕ → OpenFault → Type 0
Fails admin told old new (fault.Torn table key bytes) =
    ((rows : List Row) × AreGiven told rows
    × IsTornAt admin rows (record { table = table; key = key; body = bytes })) × (new ≡ old)
Fails admin told old new fault.KeeperFault = new ≡ one_more old
Fails admin told old new fault.Memory = new ≡ old

-- the keeper comes back with its rows as they were
pub record IsUnopened {K : Type 0} (tells : the_keeper.Ghosts K) (admin : Digest) (keeper : K)
    (unopened : Unopened K) : Type 0 where
  pub rows : WhereTold (tells.held keeper) (tells.held unopened.keeper) AreSame
  pub fails :
      Fails admin (tells.held unopened.keeper) (tells.faults keeper)
      (tells.faults unopened.keeper) unopened.fault

abbrev pub of_keeper : KeeperFault → OpenFault
of_keeper keeper.Failed = fault.KeeperFault
of_keeper keeper.Memory = fault.Memory

abbrev pub of_rows : RowsFault → OpenFault
of_rows (rows.Torn table key bytes) = fault.Torn table key bytes
of_rows rows.Memory = fault.Memory
