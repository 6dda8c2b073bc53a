use Rattle.std.proofs.Common.{◌≡◌, drop, find, not}
use Rattle.pl_views.specs.Ready.{has_ended}
use Rattle.pl_views.proofs.ready.awaited_stage.Given as goal

abbrev pub invariant-loop-stage : goal.invariant-loop-stage
invariant-loop-stage l =
    find (λ stage. not (has_ended l.fn.run l.journal.facts stage)) l.planned.depends ≡
    find (λ stage. not (has_ended l.fn.run l.journal.facts stage))
    (drop l.stage-index l.stage-items)
