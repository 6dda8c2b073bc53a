use Rattle.std.proofs.Common.{◌∙◌}
use Rattle.pl_hall.proofs.Turning.{added_by, adds_there, ahead_there, count_by_result, count_there}
use Rattle.pl_hall.proofs.Turning.{free, keeps, label_there, lock_there, longer, number_by}
use Rattle.pl_hall.proofs.Turning.{risen_if, same_if, serves_if, took_by, turn_there}
use Rattle.pl_hall.proofs.turns.answer_in_turn.Goals as goal

pub answer-reply-requires-clause-ahead : goal.answer-reply-requires-clause-ahead
answer-reply-requires-clause-ahead g c =
    let old = c.args.seat.now in
    let mid = c.take-service.new.seat in
    let taken = c.take-service.result in
    let was = g.K.Keeper.faults taken.keeper in
    let took = took_by old mid taken was c.take-service.ensures.label c.take-service.ensures.begins
    c.take-service.ensures.mine
    c.take-service.ensures.seat in
    ahead_there old mid taken was took
    c.args.call c.args.ahead c.requires.ahead

pub give_back-requires-clause-own : goal.give_back-requires-clause-own
give_back-requires-clause-own g c =
    let old = c.args.seat.now in
    let mid = c.take-service.new.seat in
    let taken = c.take-service.result in
    let was = g.K.Keeper.faults taken.keeper in
    let took = took_by old mid taken was c.take-service.ensures.label c.take-service.ensures.begins
    c.take-service.ensures.mine
    c.take-service.ensures.seat in
    lock_there old mid taken was took ∙ c.requires.free.0

pub give_back-requires-clause-turn : goal.give_back-requires-clause-turn
give_back-requires-clause-turn g c =
    let old = c.args.seat.now in
    let mid = c.take-service.new.seat in
    let taken = c.take-service.result in
    let was = g.K.Keeper.faults taken.keeper in
    let took = took_by old mid taken was c.take-service.ensures.label c.take-service.ensures.begins
    c.take-service.ensures.mine
    c.take-service.ensures.seat in
    turn_there old mid taken was took

pub give_back-requires-clause-history : goal.give_back-requires-clause-history
give_back-requires-clause-history g c =
    let old = c.args.seat.now in
    let mid = c.take-service.new.seat in
    let taken = c.take-service.result in
    let was = g.K.Keeper.faults taken.keeper in
    let took = took_by old mid taken was c.take-service.ensures.label c.take-service.ensures.begins
    c.take-service.ensures.mine
    c.take-service.ensures.seat in
    adds_there old mid taken was took
    c.answer-reply.new.self.core.entries (added_by old mid taken c.answer-reply.new.self was
    c.number.result c.args.call c.answer-reply.result
    c.number.ensures c.take-service.ensures.seat c.answer-reply.ensures.answers
    c.answer-reply.ensures.same)

pub give_back-requires-clause-label : goal.give_back-requires-clause-label
give_back-requires-clause-label g c =
    let old = c.args.seat.now in
    let mid = c.take-service.new.seat in
    let taken = c.take-service.result in
    let was = g.K.Keeper.faults taken.keeper in
    let took = took_by old mid taken was c.take-service.ensures.label c.take-service.ensures.begins
    c.take-service.ensures.mine
    c.take-service.ensures.seat in
    label_there old mid taken was took
    c.answer-reply.new.self c.answer-reply.ensures.opening

pub give_back-requires-clause-count : goal.give_back-requires-clause-count
give_back-requires-clause-count g c =
    let old = c.args.seat.now in
    let mid = c.take-service.new.seat in
    let taken = c.take-service.result in
    let was = g.K.Keeper.faults taken.keeper in
    let took = took_by old mid taken was c.take-service.ensures.label c.take-service.ensures.begins
    c.take-service.ensures.mine
    c.take-service.ensures.seat in
    count_there old mid taken was took _
    (count_by_result was _ c.answer-reply.result c.answer-reply.ensures.within
    c.answer-reply.ensures.quiet
    c.answer-reply.ensures.failed c.answer-reply.ensures.memory)

pub returns-clause-free : goal.returns-clause-free
returns-clause-free g c =
    let old = c.args.seat.now in
    let mid = c.take-service.new.seat in
    let taken = c.take-service.result in
    let was = g.K.Keeper.faults taken.keeper in
    let took = took_by old mid taken was c.take-service.ensures.label c.take-service.ensures.begins
    c.take-service.ensures.mine
    c.take-service.ensures.seat in
    let now = g.K.Keeper.faults c.answer-reply.new.self.keeper in
    free old mid taken was took c.give_back.new.seat
    c.answer-reply.new.self now c.answer-reply.ensures.opening
    c.give_back.ensures.seat
    c.args.lock.now c.requires.free

pub returns-clause-keeps : goal.returns-clause-keeps
returns-clause-keeps g c =
    let old = c.args.seat.now in
    let mid = c.take-service.new.seat in
    let taken = c.take-service.result in
    let was = g.K.Keeper.faults taken.keeper in
    let took = took_by old mid taken was c.take-service.ensures.label c.take-service.ensures.begins
    c.take-service.ensures.mine
    c.take-service.ensures.seat in
    let now = g.K.Keeper.faults c.answer-reply.new.self.keeper in
    keeps old mid taken was took c.give_back.new.seat
    c.answer-reply.new.self now c.answer-reply.ensures.opening
    c.give_back.ensures.seat
    c.answer-reply.ensures.legal
    (longer c.args.seat.now.number taken.core.entries
    c.answer-reply.new.self.core.entries (added_by old mid taken c.answer-reply.new.self was
    c.number.result c.args.call c.answer-reply.result
    c.number.ensures c.take-service.ensures.seat c.answer-reply.ensures.answers
    c.answer-reply.ensures.same))

pub returns-clause-serves : goal.returns-clause-serves
returns-clause-serves g c =
    let old = c.args.seat.now in
    let mid = c.take-service.new.seat in
    let taken = c.take-service.result in
    let was = g.K.Keeper.faults taken.keeper in
    let took = took_by old mid taken was c.take-service.ensures.label c.take-service.ensures.begins
    c.take-service.ensures.mine
    c.take-service.ensures.seat in
    let now = g.K.Keeper.faults c.answer-reply.new.self.keeper in
    serves_if old mid taken was took c.give_back.new.seat
    c.answer-reply.new.self now c.answer-reply.ensures.opening
    c.give_back.ensures.seat
    c.number.result c.args.call c.answer-reply.result (number_by old mid taken was c.number.result
    c.number.ensures c.take-service.ensures.seat)
    c.answer-reply.ensures.answers

pub returns-clause-same : goal.returns-clause-same
returns-clause-same g c =
    let old = c.args.seat.now in
    let mid = c.take-service.new.seat in
    let taken = c.take-service.result in
    let was = g.K.Keeper.faults taken.keeper in
    let took = took_by old mid taken was c.take-service.ensures.label c.take-service.ensures.begins
    c.take-service.ensures.mine
    c.take-service.ensures.seat in
    let now = g.K.Keeper.faults c.answer-reply.new.self.keeper in
    same_if old mid taken was took c.give_back.new.seat
    c.answer-reply.new.self now c.answer-reply.ensures.opening
    c.give_back.ensures.seat
    c.answer-reply.result c.answer-reply.ensures.same

pub returns-clause-failed : goal.returns-clause-failed
returns-clause-failed g c =
    let old = c.args.seat.now in
    let mid = c.take-service.new.seat in
    let taken = c.take-service.result in
    let was = g.K.Keeper.faults taken.keeper in
    let took = took_by old mid taken was c.take-service.ensures.label c.take-service.ensures.begins
    c.take-service.ensures.mine
    c.take-service.ensures.seat in
    let now = g.K.Keeper.faults c.answer-reply.new.self.keeper in
    λ is. risen_if old mid taken was took c.give_back.new.seat
    c.answer-reply.new.self now c.answer-reply.ensures.opening
    c.give_back.ensures.seat
    c.answer-reply.ensures.within (c.answer-reply.ensures.failed is)
