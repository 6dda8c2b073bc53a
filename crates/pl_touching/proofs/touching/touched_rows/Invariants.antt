use Rattle.std.proofs.Common.{[], take}
use Rattle.pl_changes.specs.Differing.{Apart, Joins}
use Rattle.pl_touched.specs.Touched.{rows_at, touched_by, FitAt}
use Rattle.pl_touching.proofs.touching.touched_rows.Given as goal

abbrev pub invariant-loop-fact : goal.invariant-loop-fact
invariant-loop-fact l = record {
  apart : Apart l.rows.items;
  joins : Joins [] (rows_at (touched_by (take l.fact-index l.facts)) l.journal.facts) l.rows.items;
  fits : FitAt (touched_by (take l.fact-index l.facts)) l.journal.facts;
}
