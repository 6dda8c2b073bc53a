use Rattle.std.proofs.Common.{refl}
use Rattle.pl_hall.proofs.Turning.{passes_none, passes_turn}
use Rattle.pl_hall.specs.Seats.{parts_of}
use Rattle.pl_hall.proofs.turns.look_ahead.Goals as goal

pub returns-then-queues-clause-passes : goal.returns-then-queues-clause-passes
returns-then-queues-clause-passes g c =
    passes_turn (parts_of c.args.seat.now) (parts_of c.compiled_ahead.new.seat) c.args.seat.now.lock
    refl c.compiled_ahead.ensures.keeps c.compiled_ahead.ensures.same

pub returns-else-queues-clause-passes : goal.returns-else-queues-clause-passes
returns-else-queues-clause-passes g c = passes_none (parts_of c.args.seat.now)
