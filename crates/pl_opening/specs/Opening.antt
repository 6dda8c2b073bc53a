-- What a service is opened with, of its kept rows; or the row that is torn.
use Rattle.std.specs.Prelude.{◌≡◌, ℕ, List, [], Some}
use Rattle.pl_base.specs.declared.digest.Digest.{Digest}
use Rattle.pl_base.specs.declared.row.Row.{Row}
use Rattle.pl_core.specs.State.{State}
use Rattle.pl_core.specs.Below.pl_history.specs.History.{Opening}
use Rattle.pl_opened_laws.specs.Below.pl_opened.specs.Opened.{IsOpened}
use Rattle.pl_opening.specs.declared.fault.RowsFault.{RowsFault}
use Rattle.pl_opening.specs.declared.fault.RowsFault.TheVariants as fault
use Rattle.pl_opened_laws.specs.Below.pl_seeing.specs.Seeing.{AreSeen}
use Rattle.pl_torn.specs.Torn.{torn}
use Rattle.pl_torn.specs.declared.seen.Seen.{Seen}

-- the opening of rows that aren't torn
pub record IsOpenedOf (admin : Digest) (rows : List Row) (opening : Opening) : Type 0 where
  pub all : List Seen
  pub seen : AreSeen rows all
  pub opened : IsOpened admin all opening.moment opening.run opening.version opening.change
      opening.facts
  pub admin_is : opening.admin ≡ admin

-- a service that was just opened with it
pub record IsOpenCore (admin : Digest) (rows : List Row) (state : State) : Type 0 where
  pub is : IsOpenedOf admin rows state.opening
  pub entries : state.entries ≡ []
  pub pending : state.pending ≡ []

-- the first row that is torn
pub record IsTornAt (admin : Digest) (rows : List Row) (row : Row) : Type 0 where
  pub all : List Seen
  pub seen : AreSeen rows all
  pub one : Seen
  pub first : torn admin all ≡ Some one
  pub same : one.row.now ≡ row

-- want of memory is free
abbrev pub IsTornBy : Digest → List Row → RowsFault → Type 0
IsTornBy admin rows (fault.Torn table key bytes) =
    IsTornAt admin rows (record { table = table; key = key; body = bytes })
IsTornBy admin rows fault.Memory = Unit {0}
