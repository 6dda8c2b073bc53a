use Rattle.pl_contenders.proofs.Held.{is_new_holder, stands_there, taken_stage}
use Rattle.pl_contenders.proofs.contenders.Contenders.hold.Goals as goal

pub hold-requires-clause-eligible : goal.hold-requires-clause-eligible
hold-requires-clause-eligible c = stands_there c.self.inside.queues.eligible
    c.self.inside.queues.holders c.args.run c.args.position (rw (← c.self.view_is) at c.requires)

pub hold-requires-clause-holders : goal.hold-requires-clause-holders
hold-requires-clause-holders c = is_new_holder c.self.inside.queues.eligible
    c.self.inside.queues.holders c.args.run c.args.position c.self.invariant
    (rw (← c.self.view_is) at c.requires)

pub invariant_of-self : goal.invariant_of-self
invariant_of-self c =
    rw c.hold.ensures.eligible (taken_stage c.self.inside.queues.eligible
    c.self.inside.queues.holders c.args.run c.args.position c.hold.new.self.holders
    c.self.invariant (rw (← c.self.view_is) at c.requires) c.hold.ensures.holders)

pub returns-clause-holders : goal.returns-clause-holders
returns-clause-holders c = rw (← c.self.view_is) c.hold.ensures.holders
