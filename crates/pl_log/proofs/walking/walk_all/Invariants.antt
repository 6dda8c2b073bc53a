use Rattle.std.proofs.Common.{◌≤◌, length, map}
use Rattle.pl_log.proofs.Gathering.{GathersFor}
use Rattle.pl_log.proofs.walking.walk_all.Given as goal

abbrev pub invariant-loop-number : goal.invariant-loop-number
invariant-loop-number g l = record {
  within : l.number ≤ length l.kept;
  gathers : GathersFor l.link (g.F.Test.passes l.test) l.kept l.fn.from l.number
      (map (λ item. item.now) l.found.items);
}

abbrev pub decreases-loop-number : goal.decreases-loop-number
decreases-loop-number g l = l.number
