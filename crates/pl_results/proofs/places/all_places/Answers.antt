use Rattle.pl_results.proofs.Turns.{range_more}
use Rattle.pl_results.proofs.places.all_places.Goals as goal

pub loop-at-preserved : goal.loop-at-preserved
loop-at-preserved c = range_more c.loop-at.at c.loop-at.places _ c.loop-at.invariant
    c.in_ok-push.ensures.ok
