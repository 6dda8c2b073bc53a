use Rattle.std.proofs.Common.{◌≡◌, ◌∷◌, map, take}
use Rattle.pl_journal.specs.Runs.{queueing, stage_end}
use Rattle.pl_views.specs.Ready.{latest_moment}
use Rattle.pl_views.proofs.ready.ready_moment.Given as goal

abbrev pub invariant-loop-stage : goal.invariant-loop-stage
invariant-loop-stage l = l.latest ≡ latest_moment (queueing l.fn.run l.journal.facts
    ∷ map (λ stage. stage_end l.fn.run stage l.journal.facts) (take l.stage-index l.stage-items))
