use Rattle.std.proofs.Common.{◌≡◌, take}
use Rattle.pl_rows.specs.Entry.{with_added}
use Rattle.pl_row_changes.proofs.pushing.push_copies.Given as goal

abbrev pub invariant-loop-fact : goal.invariant-loop-fact
invariant-loop-fact l = l.journal ≡ with_added l.fn.journal (take l.fact-index l.facts)
