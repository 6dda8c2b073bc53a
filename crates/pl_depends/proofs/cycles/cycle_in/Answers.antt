use Rattle.pl_depends.proofs.Within.{edges_at, on_cycle}
use Rattle.pl_depends.proofs.cycles.cycle_in.Goals as goal

pub order-requires : goal.order-requires
order-requires c =
    edges_at c.in_ok-count.count c.in_ok-edges.edges c.args.graph.now c.in_ok-count.ensures
    c.in_ok-edges.ensures c.requires

pub returns-in-Err-Cycle-clause-within : goal.returns-in-Err-Cycle-clause-within
returns-in-Err-Cycle-clause-within c =
    let cycle = rw c.in-Err-Cycle.field-0-is at c.in-Err-Cycle.ensures.cycle in
    on_cycle c.in_ok-edges.edges c.args.graph.now c.in-Err-Cycle.nodes c.in_ok-edges.ensures
    c.requires cycle
