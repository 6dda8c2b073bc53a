-- A kept row, as an answer of the database shows it.
use Rattle.std.specs.Prelude.{◌≡◌}
use Rattle.sqlite.specs.declared.types.Value.TheVariants.{Blob}
use Rattle.sqlite.specs.Order.{Row, column}
use Rattle.pl_base.specs.declared.row.Row.{Row as Kept}
use Rattle.pl_sqlkeeper.specs.Statements.{place_bytes}

-- the database's row has the place and the body of the kept row
pub record Stores (stored : Row) (row : Kept) : Type 0 where
  pub place : column stored 0 ≡ Blob (place_bytes row.table row.key)
  pub body : column stored 1 ≡ Blob row.body
