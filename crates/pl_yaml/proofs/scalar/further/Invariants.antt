use Rattle.std.proofs.Common.{◌≡◌, ◌≤◌}
use Rattle.std.specs.Prelude.{string_bytes}
use Rattle.pl_line.specs.Rows.{size}
use Rattle.pl_yaml.specs.Plain.{further, behind_bytes}
use Rattle.pl_yaml.proofs.scalar.further.Given as goal

abbrev pub invariant-loop-line : goal.invariant-loop-line
invariant-loop-line l = record {
  gives : behind_bytes (string_bytes l.text) (further l.parent l.last l.reader) ≡
      behind_bytes (string_bytes l.fn.text) (further l.parent l.fn.last l.fn.reader);
  falls : size l.reader ≤ size l.fn.reader;
}

abbrev pub decreases-loop-line : goal.decreases-loop-line
decreases-loop-line l = size l.reader
