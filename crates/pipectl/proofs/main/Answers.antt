use denote.Param.Send.{sendable}
use Rattle.pl_process.proofs.Sending.{process_store_send}
use Rattle.pipectl.proofs.main.Goals as goal

pub run-requires-send-O-Store : goal.run-requires-send-O-Store
run-requires-send-O-Store g c κs = search (process_store_send, sendable) depth 20
