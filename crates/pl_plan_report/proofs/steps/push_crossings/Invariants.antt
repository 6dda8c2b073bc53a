use Rattle.std.proofs.Common.{◌≡◌, ◌++◌, map, take}
use Rattle.pl_plan_report.specs.Lines.{crossings_text}
use Rattle.pl_plan_report.proofs.steps.push_crossings.Given as goal

abbrev pub invariant-loop-crossing : goal.invariant-loop-crossing
invariant-loop-crossing l = l.text ≡ l.initial.text ++
    crossings_text (map (λ crossing. crossing.now) (take l.crossing-index l.crossings))
