use Rattle.std.proofs.Common.{◌≡◌, take}
use Rattle.pl_results.specs.Combining.{combined}
use Rattle.pl_results.proofs.combining.combined.Given as goal

abbrev pub invariant-loop-result : goal.invariant-loop-result
invariant-loop-result l = l.all ≡ combined (take l.result-index l.results)
