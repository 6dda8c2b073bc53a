-- The statuses of `serve`.
use Rattle.pl_listener.specs.declared.fault.ListenFault.{ListenFault}
use Rattle.pl_listener.specs.declared.fault.ListenFault.TheVariants as fault
use Rattle.pl_outfit.specs.declared.status.Status.{Status}
use Rattle.pl_outfit.specs.declared.status.Status.TheVariants as status
use Rattle.pl_worker.specs.declared.why.End.{End}
use Rattle.pl_worker.specs.declared.why.End.TheVariants as the_end

-- the status of a door that couldn't be opened or shared
abbrev pub fault_status : ListenFault → Status
fault_status fault.Failed = status.ListenerFault
fault_status fault.Memory = status.Memory

-- the status of four workers, by why they ended
abbrev pub end_status : End → Status
end_status the_end.Stopped = status.Finished
end_status the_end.Failed = status.ListenerFault
end_status the_end.Memory = status.Memory
