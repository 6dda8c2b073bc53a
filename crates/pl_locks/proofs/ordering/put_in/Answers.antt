use Rattle.pl_locks.proofs.Ordered.{ordered_insert}
use Rattle.pl_locks.proofs.ordering.put_in.Goals as goal

pub returns-clause-ok : goal.returns-clause-ok
returns-clause-ok c =
    let place = rw c.deref.ensures.value at c.place_of-place.ensures in
    let ordered = ordered_insert c.args.stages.now.items c.place_of-place.result c.args.stage
    place.within
    c.requires.ordered c.requires.absent place.below place.above in
    record {
      place = c.place_of-place.result;
      within = place.within;
      is = c.in_ok-insert.ensures.items;
      ordered = rw c.in_ok-insert.ensures.items ordered;
    }
