use Rattle.pl_locks.proofs.Ordered.{ordered_insert}
use Rattle.pl_lock_queues.proofs.ordering.put_in.Goals as goal

pub returns-clause-is : goal.returns-clause-is
returns-clause-is c =
    let place = rw c.deref.ensures.value at c.place_among-place.ensures in
    let ordered = ordered_insert c.args.stages.now.items c.place_among-place.result c.args.stage
    place.within c.requires.ordered c.requires.absent place.below place.above in
    record {
      place = c.place_among-place.result;
      within = place.within;
      is = c.in-Ok.ensures.items;
      ordered = rw c.in-Ok.ensures.items ordered;
    }
