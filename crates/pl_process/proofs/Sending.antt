-- That the store of a process may go into another thread: in memory, and over a file.
use denote.Param.Send.{IsSend, sendable}
use denote.Param.SendFields.{declared_send}
use Rattle.pl_process.specs.contracts.store.ProcessStore as ProcessStore
use Rattle.pl_store.proofs.store.RowStore.TheSendSync as row_store
use Rattle.sqlite_disk.proofs.modelled.Modelled.TheSendSync as file
use Rattle.sqlite_disk.specs.contracts.start.Unknown as Unknown
use Rattle.sqlite_disk.specs.contracts.start.UnknownStart.TheImpl as start
use Rattle.sqlite_std_file.specs.contracts.host.Host as Host
use Rattle.sqlite_std_file.specs.contracts.host.HostCalls.TheImpl as calls
use Rattle.sqlite_store.proofs.store.FileStore.TheSendSync as file_store

host_send : IsSend Host.the_row
host_send = search sendable depth 20

pub process_store_send : IsSend ProcessStore.the_row
process_store_send =
    declared_send ProcessStore.the_type (
      row_store.the_send _ _
          (file_store.the_send _ _
          (file.the_send Host.the_row Unknown.the_row calls.ghosts start.ghosts host_send)),
      tt,
    )
