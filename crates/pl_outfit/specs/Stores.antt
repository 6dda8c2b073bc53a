-- The stores of an outfit.
use Rattle.std.specs.Prelude.{◌≡◌, ℕ, Bool, true, false, nat_lt, List, [], ◌∷◌, ◌++◌, Option, Some}
use Rattle.std.specs.Prelude.{None}
use Rattle.std.specs.Option.{option_map}
use Rattle.pl_base.specs.Counts.{one_more}
use Rattle.pl_base.specs.declared.row.Row.{Row}

-- Where it tells them: the paths that were asked for, in order, none being that of rows in memory;
-- the rows at the path that is asked for next; and what the store that was handed back last told
-- of its rows. And how often a store couldn't be given, or one was handed back of which a call had
-- failed.
pub record Stores : Type 0 where
  pub asked : Option (List (Option (List ℕ)))
  pub rows : Option (List Row)
  pub back : Option (Option (List Row))
  pub faults : ℕ

abbrev pub one_more_if : Bool → ℕ → ℕ
one_more_if true count = one_more count
one_more_if false count = count

abbrev pub and_one : {A : Type 0} → Option (List A) → A → Option (List A)
and_one told one = option_map (λ all. all ++ one ∷ []) told

-- behind a store at this path: of the path that is asked for next, nothing is told
abbrev pub rows_behind : Option (List ℕ) → Option (List Row) → Option (List Row)
rows_behind None rows = rows
rows_behind (Some path) rows = None

-- a store was given
abbrev pub given_at : Option (List ℕ) → Stores → Stores
given_at path stores = record stores {
  asked = and_one stores.asked path;
  rows = rows_behind path stores.rows;
}

-- none was given, since it couldn't be, or since memory was wanting
abbrev pub refused_at : Option (List ℕ) → Bool → Stores → Stores
refused_at path failed stores = record stores {
  asked = and_one stores.asked path;
  faults = one_more_if failed stores.faults;
}

-- one was handed back that told this of its rows, and had counted so many faults
abbrev pub handed_back : Option (List Row) → ℕ → Stores → Stores
handed_back held faults stores = record stores {
  back = option_map (λ last. held) stores.back;
  faults = one_more_if (nat_lt 0 faults) stores.faults;
}

-- The rows with which a store begins: in memory none, and at a path those that are told to be
-- there.
abbrev pub BeginsWith : Option (List ℕ) → Option (List Row) → Option (List Row) → Type 0
BeginsWith None rows held = held ≡ Some []
BeginsWith (Some path) None held = Unit {0}
BeginsWith (Some path) (Some rows) held = held ≡ Some rows
