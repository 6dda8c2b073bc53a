use Rattle.std.proofs.Common.{arith}
use Rattle.pl_locks.proofs.Keeping.{kept_next, put_same}
use Rattle.pl_locks.proofs.contenders.Contenders.hold.Goals as goal

pub invariant_of-self : goal.invariant_of-self
invariant_of-self c =
    let lists = c.self.inside in
    let next = rw (← c.self.view_is) at c.requires in
    let taken = c.take_out-stage.ensures in
    let kept = kept_next c.args.run c.args.position lists.eligible.items lists.holders.items
    c.put_in.new.stages.items c.take_out-stage.result c.self.invariant.0 next taken.taken
    taken.is_at c.in-Ok.ensures.ok in
    let len = c.in-Ok.ensures.len in
    let capacity = c.in-Ok.ensures.capacity in
    (rw taken.others kept, omega arith)

pub returns-clause-holders : goal.returns-clause-holders
returns-clause-holders c = rw (← c.self.view_is) (
    put_same c.args.run c.args.position c.self.inside.eligible.items c.self.inside.holders.items
    c.put_in.new.stages.items c.take_out-stage.result c.self.invariant.0
    c.take_out-stage.ensures.taken c.take_out-stage.ensures.is_at c.in-Ok.ensures.ok)
