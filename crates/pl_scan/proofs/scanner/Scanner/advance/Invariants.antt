use Rattle.std.proofs.Common.{length, ◌-◌, ◌≤◌}
use Rattle.pl_heads.specs.Heads.{below_limit}
use Rattle.pl_scan.specs.Scans.{Follows}
use Rattle.pl_scan.proofs.scanner.Scanner.advance.Given as goal

abbrev pub invariant-loop-self : goal.invariant-loop-self
invariant-loop-self l = record {
  follows : Follows l.self l.bytes;
  short : length l.bytes ≤ below_limit;
}

abbrev pub decreases-loop-self : goal.decreases-loop-self
decreases-loop-self l = length l.bytes - l.self.seen
