use Rattle.pl_hall.specs.Seats.{parts_of}
use denote.Param.Send.{sendable}
use Rattle.pl_serve.proofs.Sending.{service_send}
use Rattle.pl_serve.proofs.Standing.{all_free_again, all_in, one_history}
use Rattle.pl_serve.proofs.serving.serve.Goals as goal
use Rattle.pl_turn.proofs.seat.Seat.TheSendSync as seat_s
use Rattle.pl_turn.proofs.turn_lock.TurnLock.TheSendSync as lock_s

pub join_four-joined-requires : goal.join_four-joined-requires
join_four-joined-requires g c =
    all_free_again (λ clerk. clerk.seat) g.C.Clock.coming g.L.Listener.tells c.args.hall.lock
    c.split_in_four-seats.result c.args.outsides c.posted-crew.result
    c.serve_by_four-crew.result.reasons c.serve_by_four-crew.result.crew c.left-seats.result.0
    c.left-seats.result.1 c.split_in_four-seats.ensures.free c.posted-crew.ensures
    c.serve_by_four-crew.ensures.works c.left-seats.ensures

pub returns-clause-history : goal.returns-clause-history
returns-clause-history g c opening is =
    one_history (λ clerk. clerk.seat) g.C.Clock.coming g.L.Listener.tells c.args.hall.lock
    opening (parts_of c.args.seat) c.split_in_four-seats.result c.args.outsides
    c.posted-crew.result c.serve_by_four-crew.result.reasons c.serve_by_four-crew.result.crew
    c.left-seats.result.0 c.left-seats.result.1 c.join_four-joined.result
    c.close.ensures.opening c.close.ensures.entries (g.K.Keeper.held c.close.result)
    c.split_in_four-seats.ensures.split is c.posted-crew.ensures
    c.serve_by_four-crew.ensures.works c.left-seats.ensures
    c.join_four-joined.ensures.opening c.join_four-joined.ensures.joined
    c.close.ensures.opening_is c.close.ensures.begins c.close.ensures.legal c.close.ensures.kept

pub returns-clause-all_in : goal.returns-clause-all_in
returns-clause-all_in g c =
    all_in (λ clerk. clerk.seat) g.C.Clock.coming g.L.Listener.tells c.posted-crew.result
    c.serve_by_four-crew.result.reasons c.serve_by_four-crew.result.crew
    c.left-seats.result.0 c.left-seats.result.1 c.serve_by_four-crew.ensures.works
    c.left-seats.ensures

pub serve_by_four-crew-requires-send-D : goal.serve_by_four-crew-requires-send-D
serve_by_four-crew-requires-send-D g c κs within =
    let service = service_send _ g.K.Keeper c.type_bounds.send-K in
    let runtime = c.type_bounds.sync-R in
    search (seat_s.the_send, lock_s.the_sync, sendable) depth 20
