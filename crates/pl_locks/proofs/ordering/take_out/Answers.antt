use Rattle.std.proofs.Common.{◌∙◌}
use Rattle.pl_locks.proofs.Moved.{remove_at}
use Rattle.pl_locks.proofs.ordering.take_out.Goals as goal

pub returns-clause-others : goal.returns-clause-others
returns-clause-others c =
    let first = rw c.deref.ensures.value at c.in-Some.ensures in
    c.remove.ensures.items ∙ remove_at c.args.run c.args.position c.args.stages.now.items
    c.in-Some.place c.requires.ordered first.within first.here
