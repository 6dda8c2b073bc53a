use Rattle.std.proofs.Common.{◌≡◌, ◌<◌, take}
use Rattle.pl_heads.specs.Lines.{line_limit}
use Rattle.pl_heads.specs.Tally.{tally_of}
use Rattle.pl_heads.proofs.lines.cut.Given as goal

abbrev pub invariant-loop-at : goal.invariant-loop-at
invariant-loop-at l = record {
  counted : l.tally ≡ tally_of (take l.at l.bytes);
  few : l.tally.lines < line_limit;
}
