-- What a table has at its keys.
use Rattle.std.specs.Prelude.{ℕ, Bool, is_some, unwrap_or, ◌==◌, ◌&&◌}
use Rattle.std.specs.declared.cmp.Ordering.{Ordering}
use Rattle.std.specs.BTreeMap.{BTreeMap, get}
use Rattle.std.specs.HashMap.{HashMap}
use Rattle.std.specs.HashMap.{get as found}

-- a key's number; a key without a row has 0
abbrev pub row : {K : Type 0} → (K → K → Ordering) → BTreeMap K ℕ → K → ℕ
row cmp rows key = unwrap_or (get cmp rows key) 0

-- whether a key has a row
abbrev pub has_row : {K : Type 0} → (K → K → Ordering) → BTreeMap K ℕ → K → Bool
has_row cmp rows key = is_some (get cmp rows key)

-- the same of a table that is hashed
abbrev pub place : {K S : Type 0} → (K → K → Bool) → HashMap K ℕ S → K → ℕ
place eq rows key = unwrap_or (found eq rows key) 0

abbrev pub has_place : {K S : Type 0} → (K → K → Bool) → HashMap K ℕ S → K → Bool
has_place eq rows key = is_some (found eq rows key)

-- a run and a place
abbrev pub same_stage : ℕ × ℕ → ℕ × ℕ → Bool
same_stage a b = (a.0 == b.0) && (a.1 == b.1)

-- a run and two places
abbrev pub same_job : ℕ × ℕ × ℕ → ℕ × ℕ × ℕ → Bool
same_job a b = ((a.0 == b.0) && (a.1 == b.1)) && (a.2 == b.2)
