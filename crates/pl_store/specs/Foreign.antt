-- Why a database isn't the service's, by its schema.
use Rattle.std.specs.Prelude.{◌==◌, ◌&&◌, ◌||◌, ℕ, Bool, List, length, codes, if◌then◌else◌, nat_eq}
use Rattle.std.specs.List.{list_all, list_any, starts_with}
use Rattle.std.specs.Cmp.Lexicographic.{pointwise}
use Rattle.sqlite.specs.Schema.{Schema}
use Rattle.sqlite_schema.specs.declared.schema.Index.{Index}
use Rattle.pl_store.specs.declared.refusal.Refusal.{Refusal}
use Rattle.pl_store.specs.declared.refusal.Refusal.TheVariants as refusal

-- the name of the service's table, or one of a table of its versions
abbrev pub is_rows : List ℕ → Bool
is_rows name = pointwise nat_eq name (codes "pallwethig_rows_1")

abbrev pub is_version : List ℕ → Bool
is_version name = starts_with nat_eq name (codes "pallwethig_rows_")

-- a table, or what is kept as it is, has such a name
abbrev pub has_rows : Schema → Bool
has_rows schema = list_any (λ table. is_rows table.name) schema.tables ||
    list_any (λ view. is_rows view.name) schema.views

abbrev pub has_version : Schema → Bool
has_version schema = list_any (λ table. is_version table.name) schema.tables ||
    list_any (λ view. is_version view.name) schema.views

-- the index is one that the database keeps for a key: no other may have such a name
abbrev pub is_kept_by_itself : Index → Bool
is_kept_by_itself index = starts_with nat_eq index.name (codes "sqlite_autoindex_")

-- one table, and nothing but what the database keeps for its keys
abbrev pub is_alone : Schema → Bool
is_alone schema = (length schema.tables == 1) && ((length schema.views == 0) &&
    list_all is_kept_by_itself schema.indexes)

-- a table has the name of the service's: it is alone, or something stands beside it; or a table is
-- of another version; or the database is another program's
abbrev pub foreign_cause : Schema → Refusal
foreign_cause schema = if has_rows schema
    then (if is_alone schema then refusal.OtherColumns else refusal.More)
    else (if has_version schema then refusal.OtherVersion else refusal.OtherDatabase)
