use Rattle.std.proofs.Common.{[], ◌∷◌, ◌++◌, ap, ◌∙◌}
use Rattle.pl_runs.specs.Runs.{stage_status}
use Rattle.pl_runs.proofs.Places.{one_more}
use Rattle.pl_runs.proofs.standing.stages_status.Goals as goal

pub loop-stage-preserved : goal.loop-stage-preserved
loop-stage-preserved c =
    one_more (stage_status c.args.journal.now.facts c.args.run c.args.stages.now)
    c.loop-stage.stage c.loop-stage.status c.push.new.self c.loop-stage.invariant
    (c.in_ok-push.ensures.ok
    ∙ ap (λ one. c.loop-stage.status ++ one ∷ []) c.in_ok-stage_status.ensures)
