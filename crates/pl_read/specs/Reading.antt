-- What rows are read as.
use Rattle.std.specs.Prelude.{◌≡◌, Option, Some, None, IsTrue}
use Rattle.pl_base.specs.declared.row.Row.{Row}
use Rattle.pl_keeper.specs.Limits.{is_within}
use Rattle.pl_keeper.specs.Rows.{row_of, IsKept}
use Rattle.pl_keeper.specs.declared.records.Record.{Record}

-- a record within the limits whose row it is
pub record Keeps (row : Row) (kept : Record) : Type 0 where
  pub fits : IsKept kept
  pub within : IsTrue (is_within kept)
  pub same : row ≡ row_of kept

-- its record, or none where it is no record's that is within the limits
abbrev pub IsRead : Row → Option Record → Type 0
IsRead row None = (kept : Record) → ¬ Keeps row kept
IsRead row (Some kept) = Keeps row kept
