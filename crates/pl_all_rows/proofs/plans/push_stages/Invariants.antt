use Rattle.std.proofs.Common.{◌≡◌, ◌++◌, take}
use Rattle.pl_touched.specs.Touched.{rows_at, stage_places, FitAt}
use Rattle.pl_all_rows.proofs.plans.push_stages.Given as goal

abbrev pub invariant-loop-stage : goal.invariant-loop-stage
invariant-loop-stage l = record {
  here : l.at ≡ l.stage-index;
  rows : l.rows.items ≡ l.fn.rows.items ++
      rows_at (stage_places l.run 0 (take l.stage-index l.stages)) l.journal.facts;
  fits : FitAt (stage_places l.run 0 (take l.stage-index l.stages)) l.journal.facts;
}
