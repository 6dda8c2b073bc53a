use Rattle.std.proofs.Common.{◌≡◌, ◌+◌, ◌≤◌, take, drop, length}
use Rattle.pl_line.specs.Rows.{size}
use Rattle.pl_yaml.specs.BlockScalars.{text_lines, lines}
use Rattle.pl_yaml.proofs.Laws.BlockScalars.{prefixed}
use Rattle.pl_yaml.proofs.block_scalar.lines.Given as goal

abbrev pub invariant-loop-line : goal.invariant-loop-line
invariant-loop-line l = record {
  gives : prefixed (take l.count (text_lines l.column l.fn.reader)) (lines l.column l.reader) ≡
      lines l.column l.fn.reader;
  at : l.reader ≡ drop l.count l.fn.reader;
  within : l.count + length l.reader ≡ length l.fn.reader;
  falls : size l.reader ≤ size l.fn.reader;
}

abbrev pub decreases-loop-line : goal.decreases-loop-line
decreases-loop-line l = size l.reader
