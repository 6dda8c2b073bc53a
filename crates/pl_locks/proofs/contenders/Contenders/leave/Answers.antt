use Rattle.std.proofs.Common.{ap, ◌∙◌, arith}
use Rattle.pl_locks.proofs.Keeping.{both, kept_leave}
use Rattle.pl_locks.proofs.Moved.{without_absent}
use Rattle.pl_locks.proofs.contenders.Contenders.leave.Goals as goal

pub invariant_of-self : goal.invariant_of-self
invariant_of-self c =
    let lists = c.self.inside in
    let kept = kept_leave c.args.run c.args.position lists.eligible.items lists.holders.items
    c.self.invariant.0 in
    (rw c.drop_out.ensures.others kept, omega arith)

pub returns-clause-absent : goal.returns-clause-absent
returns-clause-absent c = rw (← c.self.view_is) (λ absent.
    ap (λ stages. both stages c.self.inside.holders.items) (c.drop_out.ensures.others
    ∙ without_absent c.args.run c.args.position c.self.inside.eligible.items absent))
