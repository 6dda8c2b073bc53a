use Rattle.std.proofs.Common.{refl}
use Rattle.pl_lock_queues.proofs.Finding.{first_is, none_first}
use Rattle.pl_lock_queues.proofs.asking.is_first.Goals as goal

pub returns-in-Some : goal.returns-in-Some
returns-in-Some c =
    first_is c.args.lines.now.lines c.args.key.now c.in-Some.first.now c.args.place c.eq.result
    c.eq.ensures c.in-Some.ensures

pub returns-in-None : goal.returns-in-None
returns-in-None c =
    none_first c.args.lines.now.lines c.args.key.now c.args.place _ refl c.in-None.ensures
