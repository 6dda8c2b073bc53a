-- The schema of the database: one table, and the index that the database keeps for its key.
use Rattle.std.specs.Prelude.{ℕ, true, false, List, [], ◌∷◌, None, codes}
use Rattle.sqlite.specs.declared.types.Value.TheVariants.{Null}
use Rattle.sqlite.specs.Collation.TheVariants.{Binary}
use Rattle.sqlite.specs.Kind.TheVariants.{Blob}
use Rattle.sqlite.specs.Schema.{Schema}
use Rattle.sqlite.specs.Table.{Table}
use Rattle.sqlite_schema.specs.declared.schema.Column.{Column}
use Rattle.sqlite_schema.specs.declared.schema.Index.{Index}
use Rattle.sqlite_schema.specs.declared.schema.Stamps.{Stamps}
use Rattle.sqlite_value.specs.Keys.{plain}

abbrev pub blank_schema : Schema
blank_schema = record { tables = []; indexes = []; views = [] }

-- bytes, in a column that must have them
abbrev pub bytes_column : List ℕ → Column
bytes_column name = record {
  name = name;
  kind = Blob;
  is_strict = true;
  not_null = true;
  default = Null;
  collation = Binary;
}

abbrev pub no_stamps : Stamps
no_stamps = record { places = []; terms = []; formats = [] }

abbrev pub kept_table : Table
kept_table = record {
  name = codes "pallwethig_rows_1";
  tree = 0;
  columns = bytes_column (codes "place") ∷ bytes_column (codes "body") ∷ [];
  key = None;
  primary = 1 ∷ [];
  uniques = (1 ∷ []) ∷ [];
  orders = plain ∷ [];
  checks = [];
  references = [];
  computed = [];
  stamps = no_stamps;
  is_counted = false;
}

-- the index that the database keeps for the table's key
abbrev pub kept_index : Index
kept_index = record {
  name = codes "sqlite_autoindex_pallwethig_rows_1_1";
  tree = 1;
  table = 0;
  columns = 1 ∷ [];
  order = plain;
  is_unique = true;
}

abbrev pub kept_schema : Schema
kept_schema = record { tables = kept_table ∷ []; indexes = kept_index ∷ []; views = [] }
