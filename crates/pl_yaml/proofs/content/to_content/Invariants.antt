use Rattle.std.proofs.Common.{◌≡◌, ◌≤◌}
use Rattle.pl_line.specs.Rows.{size}
use Rattle.pl_yaml.specs.Content.{content}
use Rattle.pl_yaml.proofs.content.to_content.Given as goal

abbrev pub invariant-loop-line : goal.invariant-loop-line
invariant-loop-line l = record {
  gives : content l.reader ≡ content l.fn.reader;
  falls : size l.reader ≤ size l.fn.reader;
}

abbrev pub decreases-loop-line : goal.decreases-loop-line
decreases-loop-line l = size l.reader
