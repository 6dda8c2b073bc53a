use Rattle.pl_graph.proofs.Orders.{not_both}
use Rattle.pl_graph_laws.proofs.OneCycle.{one_cycle}
use Rattle.pl_graph_laws.proofs.OneOrder.{one_order}
use Rattle.pl_graph_laws.proofs.laws.orders_and_cycles_are_unique.Goals as goal

pub returns-clause-one_order : goal.returns-clause-one_order
returns-clause-one_order c = one_order

pub returns-clause-one_cycle : goal.returns-clause-one_cycle
returns-clause-one_cycle c = one_cycle

pub returns-clause-not_both : goal.returns-clause-not_both
returns-clause-not_both c = not_both
