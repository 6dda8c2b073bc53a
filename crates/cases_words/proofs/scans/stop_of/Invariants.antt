use Rattle.std.proofs.Common.{◌≤◌, length, take}
use Rattle.pl_scan.specs.Scans.{Follows}
use Rattle.cases_words.proofs.scans.stop_of.Given as goal

-- the scanner has seen no more than came
abbrev pub invariant-loop : goal.invariant-loop
invariant-loop l = record {
  follows : Follows l.scanner (take l.len l.bytes);
  within : l.len ≤ length l.bytes;
}
