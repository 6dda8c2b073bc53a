use Rattle.std.proofs.Common.{ℕ, ◌+◌, ◌*◌, ◌<◌, length}
use Rattle.std.specs.Prelude.{reverse}
use Rattle.pl_line.specs.Rows.{size}
use Rattle.pl_yaml.specs.Stack.{Resumes, in_open}
use Rattle.pl_yaml.proofs.node.entries.Given as goal

abbrev pub invariant-loop-outer : goal.invariant-loop-outer
invariant-loop-outer l =
    (turns : ℕ) × (size l.reader < turns)
    × Resumes l.file (size l.reader) (reverse l.outer) (in_open l.file turns l.top l.reader)
    (in_open l.fn.file (size l.fn.reader + 1) l.fn.begun l.fn.reader)

abbrev pub decreases-loop-outer : goal.decreases-loop-outer
decreases-loop-outer l = 2 * size l.reader + length l.outer
