use Rattle.pl_graph.proofs.Common.{arith, edge_cmp}
use Rattle.pl_graph.proofs.Lists.{once_length}
use Rattle.pl_graph.proofs.Members.{edge_le, none_in}
use Rattle.pl_graph.proofs.Orders.{all_go_on, all_placed, cycle_is, not_both}
use Rattle.pl_graph.proofs.Walks.{canonical_is_cycle}
use Rattle.pl_graph.proofs.topological.order.Goals as goal

pub canonical_cycle-requires-clause-goes_on : goal.canonical_cycle-requires-clause-goes_on
canonical_cycle-requires-clause-goes_on c =
    all_go_on c.requires (rw c.as_slice.ensures at c.in_ok-placed.ensures)

pub canonical_cycle-requires-clause-goes : goal.canonical_cycle-requires-clause-goes
canonical_cycle-requires-clause-goes c = (c.in-Some.edge.now.1, c.in-Some.ensures.member)

pub returns-in-None : goal.returns-in-None
returns-in-None c =
    let is = all_placed c.requires (rw c.as_slice.ensures at c.in_ok-placed.ensures)
    (λ a b. none_in edge_cmp _ (a, b) (let some = c.in-None.ensures.variant in grind arith)) in
    rw c.from_vec.ensures (record {
      order = is;
      len = once_length _ _ is.topological.once is.topological.members;
      acyclic = λ nodes. not_both c.args.n c.args.edges.now _ nodes c.requires is.topological;
      cycle = tt;
      canonical = tt;
    })

pub returns-in_ok-cycle-in-Some : goal.returns-in_ok-cycle-in-Some
returns-in_ok-cycle-in-Some c =
    let edge = c.in-Some.edge.now in
    let is = cycle_is c.requires (rw c.as_slice.ensures at c.in_ok-placed.ensures) edge.0 edge.1
    c.in_ok-cycle-in-Some.cycle c.in-Some.ensures.member (λ x y h.
    let low = (edge_le edge (x, y)).0 (c.in-Some.ensures.least (x, y) h) in grind arith)
    c.in_ok-cycle-in-Some.ensures.cycle c.in_ok-cycle-in-Some.ensures.least in
    record {
      order = tt;
      len = tt;
      acyclic = tt;
      cycle = canonical_is_cycle _ _ _ is;
      canonical = is;
    }
