use Rattle.pl_graph.proofs.Common.{arith}
use Rattle.pl_graph.proofs.Members.{are_in}
use Rattle.pl_graph.proofs.Searches.{drop_one, follow_one, reach_none, reach_whole}
use Rattle.pl_graph.proofs.transitive.reach.Goals as goal

pub loop-from-init : goal.loop-from-init
loop-from-init c =
    reach_none _ _ _ (are_in _ _ c.in_ok-rest.ensures) c.new-found.ensures.len
    c.new-todo.ensures.len c.in_ok-insert.ensures.updates

pub loop-from-preserved-in_ok-insert-3 : goal.loop-from-preserved-in_ok-insert-3
loop-from-preserved-in_ok-insert-3 c =
    let (had, cut, less) = c.in-Some-take_edge.ensures in
    follow_one c.loop-from.invariant _ c.in-Some-take_edge.to _ _ _ c.in-Some.ensures.member had cut
    c.in_ok-insert-2.ensures.updates c.in_ok-insert-3.ensures.updates

pub loop-from-preserved : goal.loop-from-preserved
loop-from-preserved c =
    let (none, same) = c.in_default-take_edge.ensures in
    rw same (drop_one c.loop-from.invariant _ _ none c.remove.ensures.updates)

pub returns : goal.returns
returns c =
    reach_whole c.loop-from.invariant (let some = c.in_default.ensures.variant in grind arith)
