use Rattle.pl_cond.proofs.Segments.{folds_on}
use Rattle.pl_cond.proofs.written.with_all.Goals as goal

pub loop-one-preserved : goal.loop-one-preserved
loop-one-preserved c =
    folds_on _ _ _ _ _ _ _ c.loop-one-test.true c.one-item.is c.in_ok-all.ensures
    c.loop-one.invariant
