use Rattle.pl_graph.proofs.Walks.{turned_cycle, turned_least}
use Rattle.pl_graph.proofs.walking.canonical_cycle.Goals as goal

pub returns : goal.returns
returns c =
    let place = rw c.deref.ensures.value at c.place_of-start.ensures in
    let least = rw c.deref-2.ensures.value at c.least_of.ensures.least in
    rw (c.from_vec.ensures, c.rotate_left.ensures.items) (record {
      cycle = turned_cycle _ c.place_of-start.result c.in_ok-cycle.ensures;
      least = turned_least _ _ c.least_of.result place.within place.is least;
    })
