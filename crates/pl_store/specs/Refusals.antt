-- Why rows weren't taken over: what people are told, and which fault it is.
use Rattle.std.specs.Prelude.{ℕ, Bool, true, false, List, codes}
use Rattle.sqlite.specs.declared.error.Error.{Error}
use Rattle.sqlite.specs.declared.error.Error.TheVariants.{SqliteFailure}
use Rattle.sqlite.specs.declared.error.ErrorCode.TheVariants as code
use Rattle.pl_keeper.specs.declared.fault.KeeperFault.{KeeperFault}
use Rattle.pl_keeper.specs.declared.fault.KeeperFault.TheVariants as fault
use Rattle.sqlite.specs.Schema.{Schema}
use Rattle.pl_sqlkeeper.specs.declared.opening.Unopened.{Unopened}
use Rattle.pl_sqlkeeper.specs.declared.opening.Unopened.TheVariants as unopened
use Rattle.pl_store.specs.Foreign.{foreign_cause}
use Rattle.pl_store.specs.declared.refusal.Refusal.{Refusal}
use Rattle.pl_store.specs.declared.refusal.Refusal.TheVariants as refusal

abbrev pub fault_of : Refusal → KeeperFault
fault_of refusal.Memory = fault.Memory
fault_of other = fault.Failed

abbrev pub words_of : Refusal → List ℕ
words_of refusal.NoName = codes "this is no path of a file"
words_of refusal.NoFolder = codes "its folder is missing"
words_of refusal.Folder = codes "it is a folder"
words_of refusal.NoPlainFile = codes "it is no regular file with one name"
words_of refusal.NoRight = codes "there is no right to write it, its log or their folder"
words_of refusal.Log = codes "what has the name of its log is no regular file"
words_of refusal.Journal = codes "another program's journal stands beside it"
words_of refusal.Locked = codes "another program has it open"
words_of refusal.NoDatabase = codes "it is no database, or its rows break its schema"
words_of refusal.Damaged = codes "the database is damaged"
words_of refusal.OtherDatabase = codes "it is another program's database"
words_of refusal.OtherVersion = codes "its rows are of another version of the service"
words_of refusal.OtherColumns =
    codes "its table has other columns, keys or rules than the service's"
words_of refusal.More = codes "it holds something beside the service's table"
words_of refusal.Full = codes "the disk is full"
words_of refusal.Disk = codes "a read or a write of it failed"
words_of refusal.Memory = codes "memory was wanting"
words_of refusal.Otherwise = codes "it can't be opened as a database"

-- what an error of the database is, as a refusal
abbrev pub cause_of : Error → Refusal
cause_of (SqliteFailure code.OutOfMemory) = refusal.Memory
cause_of (SqliteFailure code.DatabaseBusy) = refusal.Locked
cause_of (SqliteFailure code.NotADatabase) = refusal.NoDatabase
cause_of (SqliteFailure code.DatabaseCorrupt) = refusal.Damaged
cause_of (SqliteFailure code.DiskFull) = refusal.Full
cause_of (SqliteFailure code.SystemIoFailure) = refusal.Disk
cause_of (SqliteFailure code.Closed) = refusal.Disk
cause_of other = refusal.Otherwise

-- why a database with this schema wasn't taken over
abbrev pub refusal_of : Unopened → Schema → Refusal
refusal_of (unopened.Database error) schema = cause_of error
refusal_of unopened.Other schema = foreign_cause schema

-- the reasons that are read from the schema
abbrev pub is_foreign : Refusal → Bool
is_foreign refusal.OtherDatabase = true
is_foreign refusal.OtherVersion = true
is_foreign refusal.OtherColumns = true
is_foreign refusal.More = true
is_foreign other = false
