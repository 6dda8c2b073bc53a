-- The statements that a change is, and what a list of changes may commit.
use Rattle.std.specs.Prelude.{◌≡◌, ℕ, true, List, [], ◌∷◌, codes, Option, Some, None, Ok, IsTrue}
use Rattle.sqlite.specs.declared.types.Value.TheVariants.{Blob}
use Rattle.sqlite.specs.Order.{Row}
use Rattle.sqlite.specs.Tree.{Trees}
use Rattle.sqlite.specs.Store.{Ghosts}
use Rattle.sqlite.specs.State.{State, Executes, Shown, Shows}
use Rattle.sqlite.specs.Held.{Held, state}
use Rattle.pl_base.specs.declared.row.Change.{Change}

abbrev pub make_text : List ℕ
make_text = codes
    "CREATE TABLE pallwethig_rows_1 (place BLOB NOT NULL PRIMARY KEY, body BLOB NOT NULL) STRICT"

abbrev pub put_text : List ℕ
put_text = codes "INSERT INTO pallwethig_rows_1 (place, body) VALUES (?1, ?2)"

abbrev pub take_text : List ℕ
take_text = codes "DELETE FROM pallwethig_rows_1 WHERE place = ?1"

abbrev pub read_text : List ℕ
read_text = codes "SELECT place, body FROM pallwethig_rows_1 ORDER BY place"

abbrev pub count_text : List ℕ
count_text = codes "SELECT rowid FROM pallwethig_rows_1 ORDER BY rowid"

-- a table and a key, as the table of the database has them: the table's byte, then the key
abbrev pub place_bytes : ℕ → List ℕ → List ℕ
place_bytes table key = table ∷ key

module _ {S : Type 0} (g : Ghosts S) where
  -- a statement ran, inside a transaction
  pub record Ran (sql : List ℕ) (params : Row) (old new : Held S) : Type 0 where
    pub count : ℕ
    pub executed : Executes sql params (state g old) (state g new) (Ok count)
    pub shown : Shows (state g old) (state g new) (state g new).now (state g old).committed true

  -- the row at a place went, if there was one, and where there is a body it came in its place
  abbrev pub Replaced : List ℕ → Option (List ℕ) → Held S → Held S → Type 0
  Replaced place None old new = Ran take_text (Blob place ∷ []) old new
  Replaced place (Some body) old new = (mid : Held S) × Ran take_text (Blob place ∷ []) old mid ×
      Ran put_text (Blob place ∷ Blob body ∷ []) mid new

  -- the change's statements ran
  abbrev pub Changed : Change → Held S → Held S → Type 0
  Changed change old new = Replaced (place_bytes change.table change.key) change.body old new

  -- the statements of the changes ran, one after the other
  abbrev pub RanAll : List Change → Held S → Held S → Type 0
  RanAll [] old new = new ≡ old
  RanAll (change ∷ changes) old new = (mid : Held S) × Changed change old mid ×
      RanAll changes mid new

  -- what all changes, made in one transaction, make of the database
  abbrev pub Makes : List Change → Held S → Trees → Type 0
  Makes changes old db = (last : Held S) ×
      RanAll changes (record old { in_transaction = true }) last × (db ≡ (state g last).now.trees)

  -- the query was answered so, in a transaction of its own
  abbrev pub Looked : List ℕ → Held S → List Row → Type 0
  Looked sql old rows = (last : Held S) ×
      Shown sql [] (state g (record old { in_transaction = true })) (state g last) rows

  -- all changes were made, in one transaction, and committed
  pub record IsMade (changes : List Change) (old new : Held S) : Type 0 where
    pub last : Held S
    pub ran : RanAll changes (record old { in_transaction = true }) last
    pub was_open : IsTrue (state g old).is_open
    pub is_open : IsTrue (state g new).is_open
    pub now_is : (state g new).now ≡ (state g last).now
    pub committed_is : (state g new).committed ≡ (state g last).now

-- where the database is open, it was, and it has what was committed before, and no more
pub record IsUndone (old new : State) : Type 0 where
  pub was_open : IsTrue new.is_open → IsTrue old.is_open
  pub now_is : IsTrue new.is_open → new.now ≡ old.committed
  pub committed_is : IsTrue new.is_open → new.committed ≡ old.committed
