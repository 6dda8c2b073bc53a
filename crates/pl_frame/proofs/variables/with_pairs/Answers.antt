use Rattle.pl_frame.proofs.Varying.{pairs_next}
use Rattle.pl_frame.proofs.variables.with_pairs.Goals as goal

pub loop-pair-preserved : goal.loop-pair-preserved
loop-pair-preserved c =
    pairs_next _ _ _ _ _ _ _ c.loop-pair-test.true c.pair-item.is c.in_ok-later.ensures
    c.in_ok-all.ensures c.loop-pair.invariant
