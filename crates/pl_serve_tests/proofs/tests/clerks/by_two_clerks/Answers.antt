use denote.Param.Send.{sendable}
use Rattle.pl_serve.proofs.Sending.{service_send}
use Rattle.pl_turn.proofs.seat.Seat.TheSendSync as seat_s
use Rattle.pl_turn.proofs.turn_lock.TurnLock.TheSendSync as lock_s
use Rattle.pl_serve_tests.proofs.tests.clerks.by_two_clerks.Goals as goal

-- only the first of two closures goes into another thread: the clerk whose gate is free
pub side_by_side-requires-send-D : goal.side_by_side-requires-send-D
side_by_side-requires-send-D g c κs within =
    let service = service_send _ g.K.Keeper c.type_bounds.send-K in
    let runtime = c.type_bounds.sync-R in
    search (seat_s.the_send, lock_s.the_sync, sendable) depth 20
