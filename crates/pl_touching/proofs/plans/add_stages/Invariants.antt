use Rattle.std.proofs.Common.{◌≡◌, take}
use Rattle.pl_changes.specs.Differing.{Apart, Joins}
use Rattle.pl_touched.specs.Touched.{rows_at, stage_places, FitAt}
use Rattle.pl_touching.proofs.plans.add_stages.Given as goal

abbrev pub invariant-loop-stage : goal.invariant-loop-stage
invariant-loop-stage l = record {
  here : l.at ≡ l.stage-index;
  apart : Apart l.fn.rows.items → Apart l.rows.items;
  joins : Joins l.fn.rows.items
      (rows_at (stage_places l.run 0 (take l.stage-index l.stages)) l.journal.facts) l.rows.items;
  fits : FitAt (stage_places l.run 0 (take l.stage-index l.stages)) l.journal.facts;
}
