use Rattle.std.proofs.Common.{sym}
use Rattle.pl_results.proofs.Outweighing.{combined_at, combined_none}
use Rattle.pl_results.proofs.combining.combined.Goals as goal

pub loop-result-init : goal.loop-result-init
loop-result-init c = sym combined_none

pub loop-result-preserved : goal.loop-result-preserved
loop-result-preserved c = combined_at c.args.results.now c.loop-result.result-index _
    c.loop-result.all c.worse-all.result c.loop-result-test.true c.loop-result.invariant
    c.worse-all.ensures
