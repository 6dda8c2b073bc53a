-- That a clerk may go into another thread.
use denote.Builtin.{u64, usize}
use denote.RattleType.{RattleType}
use denote.Param.Send.{IsSend, sendable, view_send}
use denote.Param.SendFields.{as_row_send, declared_send}
use denote.Struct.Field.{row_field}
use Rattle.std.proofs.Crossing as c
use Rattle.pl_hall.specs.Below.pl_core.specs.contracts.service.Core as Core
use Rattle.pl_hall.specs.Below.pl_core.specs.contracts.service.Core.TheInside as inside
use Rattle.pl_hall.specs.Below.pl_core.specs.Below.pl_snapshots.specs.contracts.gathering.Gathered as Gathered
use Rattle.pl_hall.specs.Below.pl_core.specs.Below.pl_snapshots.specs.Below.pl_file_sets.proofs.Sending.{shared_files_send}
use Rattle.pl_hall.specs.Below.pl_service.specs.contracts.service.Service as Service
use Rattle.pl_keeper.specs.declared.keeper.Keeper.{Ghosts}
use Rattle.pl_sending.proofs.Sending.{entry_send, indexed_journal_send}

number_send : IsSend u64
number_send = search sendable

count_send : IsSend usize
count_send = search sendable

gathered_send : IsSend Gathered.the_row
gathered_send = declared_send Gathered.the_type (shared_files_send, (count_send, tt))

core_send : IsSend Core.the_row
core_send =
    view_send _ _ _ _ _
    (declared_send inside.the_type (
      indexed_journal_send,
      (
        gathered_send,
        (
          c.Vec-send _ entry_send,
          (
            number_send,
            (
              number_send,
              (
                number_send,
                (number_send, (number_send, (number_send, tt))),
              ),
            ),
          ),
        ),
      ),
    ))

pub service_send : (K : RattleType) (tells : Ghosts K.Denot) → IsSend K
    → IsSend (Service.the_row K tells)
service_send K tells sends =
    declared_send (Service.the_type K tells) (core_send, (as_row_send (row_field K) sends, tt))
