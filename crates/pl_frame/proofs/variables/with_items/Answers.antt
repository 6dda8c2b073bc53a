use Rattle.pl_frame.proofs.Varying.{items_next}
use Rattle.pl_frame.proofs.variables.with_items.Goals as goal

pub loop-item-preserved : goal.loop-item-preserved
loop-item-preserved c =
    items_next _ _ _ _ _ _ c.loop-item-test.true c.item-item.is c.in_ok-all.ensures
    c.loop-item.invariant
