-- What the database refused, as a keeper's faults.
use Rattle.std.specs.Prelude.{Bool, true, false, not, Result, Ok, Err}
use Rattle.sqlite.specs.declared.error.Error.{Error}
use Rattle.sqlite.specs.declared.error.Error.TheVariants.{SqliteFailure}
use Rattle.sqlite.specs.declared.error.ErrorCode.TheVariants.{OutOfMemory}
use Rattle.pl_sqlkeeper.specs.declared.opening.Unopened.{Unopened}
use Rattle.pl_sqlkeeper.specs.declared.opening.Unopened.TheVariants.{Database, Other}
use Rattle.pl_keeper.specs.declared.fault.KeeperFault.{KeeperFault}
use Rattle.pl_keeper.specs.declared.fault.KeeperFault.TheVariants.{Failed, Memory}

-- the database wanted memory
abbrev pub is_memory : Error → Bool
is_memory (SqliteFailure OutOfMemory) = true
is_memory _ = false

abbrev pub fault_of : Error → KeeperFault
fault_of (SqliteFailure OutOfMemory) = Memory
fault_of _ = Failed

-- why a database wasn't taken over, as a keeper's fault
abbrev pub fault_why : Unopened → KeeperFault
fault_why (Database e) = fault_of e
fault_why Other = Failed

-- an answer of the database, as a keeper tells it
abbrev pub told : {T : Type 0} → Result T Error → Result T KeeperFault
told (Ok value) = Ok value
told (Err e) = Err (fault_of e)

-- each refusal counts as a fault, but for want of memory
abbrev pub is_counted : {T : Type 0} → Result T Error → Bool
is_counted (Ok value) = false
is_counted (Err e) = not (is_memory e)
