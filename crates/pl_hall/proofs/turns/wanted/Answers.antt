use Rattle.std.proofs.Common.{◌≡◌, ◌∙◌, ap, inl, sym}
use Rattle.pl_hall.proofs.Turning.{took_by, adds_there, count_same, count_there, free, keeps}
use Rattle.pl_hall.proofs.Turning.{label_there, lock_there, same_mine, turn_there, wants_if}
use Rattle.pl_service.specs.Past.{Past}
use Rattle.pl_turn.proofs.Beginnings.{prefix-same}
use Rattle.pl_hall.proofs.turns.wanted.Goals as goal

pub give_back-requires-clause-own : goal.give_back-requires-clause-own
give_back-requires-clause-own g c =
    let old = c.args.seat.now in
    let mid = c.take-service.new.seat in
    let taken = c.take-service.result in
    let was = g.K.Keeper.faults taken.keeper in
    let took = took_by old mid taken was c.take-service.ensures.label c.take-service.ensures.begins
    c.take-service.ensures.mine
    c.take-service.ensures.seat in
    lock_there old mid taken was took ∙ c.requires.free.0

pub give_back-requires-clause-turn : goal.give_back-requires-clause-turn
give_back-requires-clause-turn g c =
    let old = c.args.seat.now in
    let mid = c.take-service.new.seat in
    let taken = c.take-service.result in
    let was = g.K.Keeper.faults taken.keeper in
    let took = took_by old mid taken was c.take-service.ensures.label c.take-service.ensures.begins
    c.take-service.ensures.mine
    c.take-service.ensures.seat in
    turn_there old mid taken was took

pub give_back-requires-clause-history : goal.give_back-requires-clause-history
give_back-requires-clause-history g c =
    let old = c.args.seat.now in
    let mid = c.take-service.new.seat in
    let taken = c.take-service.result in
    let was = g.K.Keeper.faults taken.keeper in
    let took = took_by old mid taken was c.take-service.ensures.label c.take-service.ensures.begins
    c.take-service.ensures.mine
    c.take-service.ensures.seat in
    adds_there old mid taken was took
    c.wanted-wanted.new.self.core.entries (inl (ap (λ (past : Past). past.entries)
    c.wanted-wanted.ensures.same))

pub give_back-requires-clause-label : goal.give_back-requires-clause-label
give_back-requires-clause-label g c =
    let old = c.args.seat.now in
    let mid = c.take-service.new.seat in
    let taken = c.take-service.result in
    let was = g.K.Keeper.faults taken.keeper in
    let took = took_by old mid taken was c.take-service.ensures.label c.take-service.ensures.begins
    c.take-service.ensures.mine
    c.take-service.ensures.seat in
    label_there old mid taken was took
    c.wanted-wanted.new.self (ap (λ (past : Past). past.opening) c.wanted-wanted.ensures.same)

pub give_back-requires-clause-count : goal.give_back-requires-clause-count
give_back-requires-clause-count g c =
    let old = c.args.seat.now in
    let mid = c.take-service.new.seat in
    let taken = c.take-service.result in
    let was = g.K.Keeper.faults taken.keeper in
    let took = took_by old mid taken was c.take-service.ensures.label c.take-service.ensures.begins
    c.take-service.ensures.mine
    c.take-service.ensures.seat in
    count_there old mid taken was took _
    (count_same g.K.Keeper.faults taken.keeper c.wanted-wanted.new.self.keeper
    c.wanted-wanted.ensures.keeper)

pub returns-clause-free : goal.returns-clause-free
returns-clause-free g c =
    let old = c.args.seat.now in
    let mid = c.take-service.new.seat in
    let taken = c.take-service.result in
    let was = g.K.Keeper.faults taken.keeper in
    let took = took_by old mid taken was c.take-service.ensures.label c.take-service.ensures.begins
    c.take-service.ensures.mine
    c.take-service.ensures.seat in
    let now = g.K.Keeper.faults c.wanted-wanted.new.self.keeper in
    free old mid taken was took c.give_back.new.seat
    c.wanted-wanted.new.self now (ap (λ (past : Past). past.opening) c.wanted-wanted.ensures.same)
    c.give_back.ensures.seat
    c.args.lock.now c.requires.free

pub returns-clause-keeps : goal.returns-clause-keeps
returns-clause-keeps g c =
    let old = c.args.seat.now in
    let mid = c.take-service.new.seat in
    let taken = c.take-service.result in
    let was = g.K.Keeper.faults taken.keeper in
    let took = took_by old mid taken was c.take-service.ensures.label c.take-service.ensures.begins
    c.take-service.ensures.mine
    c.take-service.ensures.seat in
    let now = g.K.Keeper.faults c.wanted-wanted.new.self.keeper in
    keeps old mid taken was took c.give_back.new.seat
    c.wanted-wanted.new.self now (ap (λ (past : Past). past.opening) c.wanted-wanted.ensures.same)
    c.give_back.ensures.seat
    c.wanted-wanted.ensures.legal
    (prefix-same taken.core.entries c.wanted-wanted.new.self.core.entries
    (sym (ap (λ (past : Past). past.entries) c.wanted-wanted.ensures.same)))

pub returns-clause-same : goal.returns-clause-same
returns-clause-same g c =
    let old = c.args.seat.now in
    let mid = c.take-service.new.seat in
    let taken = c.take-service.result in
    let was = g.K.Keeper.faults taken.keeper in
    let took = took_by old mid taken was c.take-service.ensures.label c.take-service.ensures.begins
    c.take-service.ensures.mine
    c.take-service.ensures.seat in
    let now = g.K.Keeper.faults c.wanted-wanted.new.self.keeper in
    same_mine old mid taken was took c.give_back.new.seat
    c.wanted-wanted.new.self now (ap (λ (past : Past). past.opening) c.wanted-wanted.ensures.same)
    c.give_back.ensures.seat
    (ap (λ (past : Past). past.entries) c.wanted-wanted.ensures.same)

pub returns-clause-wants : goal.returns-clause-wants
returns-clause-wants g c =
    let old = c.args.seat.now in
    let mid = c.take-service.new.seat in
    let taken = c.take-service.result in
    let was = g.K.Keeper.faults taken.keeper in
    let took = took_by old mid taken was c.take-service.ensures.label c.take-service.ensures.begins
    c.take-service.ensures.mine
    c.take-service.ensures.seat in
    let now = g.K.Keeper.faults c.wanted-wanted.new.self.keeper in
    wants_if old mid taken was took c.give_back.new.seat
    c.wanted-wanted.new.self now (ap (λ (past : Past). past.opening) c.wanted-wanted.ensures.same)
    c.give_back.ensures.seat
    c.args.call.now c.wanted-wanted.result c.wanted-wanted.ensures.same
    c.wanted-wanted.ensures.wants
