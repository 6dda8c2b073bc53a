use Rattle.std.proofs.Common.{arith}
use Rattle.pl_locks.proofs.Keeping.{kept_enter}
use Rattle.pl_locks.proofs.contenders.Contenders.enter.Goals as goal

pub invariant_of-self-2 : goal.invariant_of-self-2
invariant_of-self-2 c =
    let lists = c.self.inside in
    let absent = rw (← c.self.view_is) at c.requires.holders in
    let kept = kept_enter lists.eligible.items lists.holders.items c.put_in.new.stages.items
    c.args.stage c.self.invariant.0 absent c.in_ok-put_in.ensures.ok in
    let len = c.in_ok-put_in.ensures.len in
    let room = c.in_ok-reserve.ensures.ok in
    (rw c.reserve.ensures.items kept, omega arith)
