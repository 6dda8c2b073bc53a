-- The program's statuses.
use Rattle.std.specs.Prelude.{ℕ}
use Rattle.pl_outfit.specs.declared.status.Status.{Status}
use Rattle.pl_outfit.specs.declared.status.Status.TheVariants as status

-- the exit status of the process
abbrev pub code_of : Status → ℕ
code_of status.Finished = 0
code_of status.ReadFault = 1
code_of status.Usage = 2
code_of status.WriteFault = 3
code_of status.KeeperFault = 4
code_of status.Torn = 5
code_of status.Memory = 6
code_of status.ListenerFault = 7
code_of status.Refused = 8
code_of status.NotWhole = 9
code_of status.Spent = 10
