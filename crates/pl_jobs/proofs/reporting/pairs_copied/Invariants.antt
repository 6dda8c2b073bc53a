use Rattle.std.proofs.Common.{◌≡◌, take}
use Rattle.pl_jobs.proofs.reporting.pairs_copied.Given as goal

abbrev pub invariant-loop-output : goal.invariant-loop-output
invariant-loop-output l = l.copies ≡ take l.output-index l.output-items
