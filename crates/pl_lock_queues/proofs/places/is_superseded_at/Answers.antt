use Rattle.std.proofs.Common.{refl}
use Rattle.pl_locks.specs.Locks.{IsSuperseded}
use Rattle.pl_lock_queues.proofs.Finding.{at_place, nobody}
use Rattle.pl_lock_queues.proofs.places.is_superseded_at.Goals as goal

pub returns-in-Some : goal.returns-in-Some
returns-in-Some c =
    at_place c.args.eligible.now c.args.place.0 c.args.place.1 c.in-Some.at
    c.index-eligible-at.result c.requires c.in-Some.ensures c.index-eligible-at.is
    (IsSuperseded c.args.eligible.now) c.is_superseded.result c.is_superseded.ensures

pub returns-in-None : goal.returns-in-None
returns-in-None c =
    nobody (IsSuperseded c.args.eligible.now) c.args.eligible.now c.args.place.0 c.args.place.1
    c.in-None.ensures _ refl
