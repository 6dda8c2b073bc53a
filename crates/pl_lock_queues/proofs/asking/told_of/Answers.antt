use Rattle.std.proofs.Common.{sym, subst}
use Rattle.pl_locks.specs.Locks.{IsSuperseded}
use Rattle.pl_locks.proofs.Chosen.{first_superseded}
use Rattle.pl_lock_queues.proofs.asking.told_of.Goals as goal

pub returns : goal.returns
returns c =
    first_superseded c.args.eligible.now c.args.at c.in-Some.later c.index-eligible-at.result
    c.index-eligible-later.result c.requires.ordered c.requires.within c.index-eligible-at.is
    c.requires.none c.in-Some.ensures

pub unreachable-requires : goal.unreachable-requires
unreachable-requires c = c.in-None.ensures (subst (IsSuperseded c.args.eligible.now)
    (sym c.index-eligible-at.is) (c.requires.gives c.index-eligible-at.result))
