-- What the program does where it has no store, or no service can be opened of a store's rows.
use Rattle.std.specs.Prelude.{◌≡◌, ℕ, Bool, true, false, if◌then◌else◌, List, ◌++◌, Option}
use Rattle.std.specs.Prelude.{Result, Ok, Err, codes, decimal}
use Rattle.hex.specs.Hex.{encode_lower}
use Rattle.pl_base.specs.Counts.{one_more}
use Rattle.pl_base.specs.Streams.{with_end}
use Rattle.pl_base.specs.declared.digest.Digest.{Digest}
use Rattle.pl_base.specs.declared.row.Row.{Row}
use Rattle.pl_keeper.specs.Keeping.{WhereTold}
use Rattle.pl_outfit.specs.Outside.{Outside}
use Rattle.pl_outfit.specs.Stores.{BeginsWith, given_at, handed_back, refused_at}
use Rattle.pl_outfit.specs.declared.status.Status.{Status}
use Rattle.pl_outfit.specs.declared.status.Status.TheVariants as status
use Rattle.pl_service.specs.Begun.{Fails}
use Rattle.pl_service.specs.Rows.{AreSame}
use Rattle.pl_service.specs.declared.fault.OpenFault.{OpenFault}
use Rattle.pl_service.specs.declared.fault.OpenFault.TheVariants as fault
use Rattle.pl_sessions.specs.Told.{Begun, Writes}

-- ---- no store

-- a store was given at a path, or in memory
abbrev pub with_store : Option (List ℕ) → Outside → Outside
with_store path old = record old { stores = given_at path old.stores }

-- the status where none was, since it couldn't be, or since memory was wanting
abbrev pub no_store_status : Bool → Status
no_store_status failed = if failed then status.KeeperFault else status.Memory

-- none was, and people were told the outfit's line
pub record HasNoStore (path : Option (List ℕ)) (old : Outside) (ending : Status) (new : Outside)
    : Type 0 where
  pub failed : Bool
  pub is :
      new ≡ record old {
        people = with_end old.people (old.lines.no_store path failed);
        stores = refused_at path failed old.stores;
      }
  pub ending_is : ending ≡ no_store_status failed

-- the store of a run, of which no call was made; or how the run ends without one
abbrev pub HasStore : {K : Type 0} → (K → Option (List Row)) → (K → ℕ) → Option (List ℕ) → Outside
    → Result K Status → Outside → Type 0
HasStore held faults path old (Ok store) new =
    BeginsWith path old.stores.rows (held store) × (faults store ≡ 0)
    × (new ≡ with_store path old)
HasStore held faults path old (Err ending) new = HasNoStore path old ending new

-- ---- no service

-- the line of a torn row: its table, and its key as hexadecimal digits in lower case
abbrev pub torn_line : ℕ → List ℕ → List ℕ
torn_line table key =
    codes "torn " ++ (decimal table ++ (codes " " ++ (encode_lower key ++ codes "\n")))

-- the line was written; or its beginning, since a write failed; or memory was wanting for it
abbrev pub WritesLine : List ℕ → Outside → Status → Outside → Type 0
WritesLine line old status.Torn new = Writes line old.link new.link
WritesLine line old status.WriteFault new =
    Begun line (one_more old.link.write_faults) old.link new.link
WritesLine line old status.Memory new = new ≡ old
WritesLine line old other new = ⊥

-- and nothing else changed
pub record WritesTorn (table : ℕ) (key : List ℕ) (old : Outside) (ending : Status)
    (new : Outside) : Type 0 where
  pub writes : WritesLine (torn_line table key) old ending new
  pub is : new ≡ record old { link = new.link }

-- what people are told where the store failed
abbrev pub unread_line : List ℕ
unread_line = codes "pipectl: the store's rows can't be read\n"

-- what is written or told, and how the run ends, by why no service could be opened
abbrev pub Tells : OpenFault → Outside → Status → Outside → Type 0
Tells (fault.Torn table key bytes) old ending new = WritesTorn table key old ending new
Tells fault.KeeperFault old ending new =
    (ending ≡ status.KeeperFault)
    × (new ≡ record old { people = with_end old.people unread_line })
Tells fault.Memory old ending new = (ending ≡ status.Memory) × (new ≡ old)

-- the store was handed back, which told this of its rows, and had counted so many faults
pub record Refuses (why : OpenFault) (held : Option (List Row)) (faults : ℕ) (old : Outside)
    (ending : Status) (new : Outside) : Type 0 where
  pub between : Outside
  pub tells : Tells why old ending between
  pub is : new ≡ record between { stores = handed_back held faults between.stores }

-- A store was given, but no service could be opened of its rows: one is torn, the store failed, or
-- memory was wanting. It was handed back, with its rows as they were.
pub record Unopens (admin : Digest) (path : Option (List ℕ)) (old : Outside) (ending : Status)
    (new : Outside) : Type 0 where
  pub told : Option (List Row)
  pub begins : BeginsWith path old.stores.rows told
  pub why : OpenFault
  pub held : Option (List Row)
  pub faults : ℕ
  pub same : WhereTold told held AreSame
  pub fails : Fails admin held 0 faults why
  pub refuses : Refuses why held faults (with_store path old) ending new
