use Rattle.pl_graph.proofs.Common.{arith, nat_tests}
use Rattle.pl_graph.proofs.Placements.{pass_one, place_one, placed_all, placing_none, take_one}
use Rattle.pl_graph.proofs.placing.place_nodes.Goals as goal

pub loop-dependent-init : goal.loop-dependent-init
loop-dependent-init c =
    rw c.new-placed.ensures.items (placing_none c.in_ok-dependents.ensures
    c.in_ok-missing.ensures c.requires c.in_ok-candidates.ensures)

pub loop-dependent-preserved-in_ok-insert : goal.loop-dependent-preserved-in_ok-insert
loop-dependent-preserved-in_ok-insert c =
    let (had, cut, less) = c.in-Some.ensures in
    take_one c.requires c.loop-dependent.invariant c.in-Some.dependent _ _ _ had cut
    c.remove.ensures.updates c.in_ok-insert.ensures.updates

pub loop-dependent-preserved : goal.loop-dependent-preserved
loop-dependent-preserved c =
    let (none, same) = c.in_default.ensures in
    rw same (pass_one c.requires c.loop-dependent.invariant c.in-Some-pop_first.node _
    (c.is_free.ensures.bound c.if-is_free.false) c.in-Some-pop_first.ensures.updates)

pub loop-dependent-preserved-then-is_free : goal.loop-dependent-preserved-then-is_free
loop-dependent-preserved-then-is_free c =
    let (none, same) = c.in_default.ensures in
    rw (c.in_ok-push.ensures.items, same) (place_one c.requires c.loop-dependent.invariant none
    c.in-Some-pop_first.node _ c.in-Some-pop_first.ensures.member
    (λ x h. let low = c.in-Some-pop_first.ensures.least x h in grind (arith, nat_tests))
    (c.is_free.ensures.free c.if-is_free.true) c.in-Some-pop_first.ensures.updates)

pub returns-in_default-pop_first : goal.returns-in_default-pop_first
returns-in_default-pop_first c =
    let (none, same) = c.in_default.ensures in
    placed_all c.requires c.loop-dependent.invariant none
    (let some = c.in_default-pop_first.ensures.variant in grind arith)
