use Rattle.pl_frame.proofs.Doubled.{tested, double_here, double_later}
use Rattle.pl_frame.proofs.doubles.double_by_search.Goals as goal

pub returns-then-has_key : goal.returns-then-has_key
returns-then-has_key c =
    double_here _ _ _ _ c.loop-at-test.true c.index-pairs-at.is
    (tested _ _ _ _ c.split_at.ensures.front c.if-has_key.ensures) c.loop-at.invariant

pub loop-at-preserved : goal.loop-at-preserved
loop-at-preserved c =
    double_later _ _ _ _ c.loop-at-test.true c.index-pairs-at.is
    (tested _ _ _ _ c.split_at.ensures.front c.if-has_key.ensures) c.loop-at.invariant
