use Rattle.std.proofs.Common.{rules}
use Rattle.pl_lock_queues.proofs.Keys.{kept_at}
use Rattle.pl_lock_queues.proofs.marks.set_mark.Goals as goal

pub returns-in-Some-clause-kept : goal.returns-in-Some-clause-kept
returns-in-Some-clause-kept c =
    kept_at c.args.key.now c.args.marks.now (c.get_mut.follows.lender c.args.held) c.args.held
    c.requires ((c.get_mut.follows.holds c.args.held).3 (search rules)).0
