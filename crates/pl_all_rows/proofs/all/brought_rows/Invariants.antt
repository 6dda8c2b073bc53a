use Rattle.std.proofs.Common.{◌≡◌, take}
use Rattle.pl_touched.specs.Touched.{rows_at, FitAt}
use Rattle.pl_all_rows.specs.Brought.{brought_by}
use Rattle.pl_all_rows.proofs.all.brought_rows.Given as goal

abbrev pub invariant-loop-at : goal.invariant-loop-at
invariant-loop-at l = record {
  rows : l.rows.items ≡ rows_at (brought_by (take l.at l.journal.facts)) l.journal.facts;
  fits : FitAt (brought_by (take l.at l.journal.facts)) l.journal.facts;
}
