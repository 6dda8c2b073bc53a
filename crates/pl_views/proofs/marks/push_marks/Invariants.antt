use Rattle.std.proofs.Common.{◌≡◌, ◌++◌, map, take}
use Rattle.std.specs.List.{enumerate_from}
use Rattle.pl_views.specs.CheckViews.{step_mark}
use Rattle.pl_views.proofs.marks.push_marks.Given as goal

abbrev pub invariant-loop-step : goal.invariant-loop-step
invariant-loop-step l = (l.number ≡ l.step-index) × (l.marks ≡
    l.fn.marks ++ map (step_mark l.job) (enumerate_from 1 (take l.step-index l.step-items)))
