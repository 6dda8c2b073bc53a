use Rattle.std.proofs.Common.{sym, ◌∙◌}
use Rattle.pl_settings.specs.Running.{running_at}
use Rattle.pl_settings.proofs.Turns.{none_more, some_more}
use Rattle.pl_settings.proofs.running.push_stages.Goals.{in-None, in-Some+in_ok-push-in-Some}
use Rattle.pl_settings.proofs.running.push_stages.Goals as goal

pub loop-stage-preserved : goal.loop-stage-preserved
loop-stage-preserved c =
    let h = running_at c.args.journal.now.facts c.args.key.now c.args.run c.args.stages.now in
    elim c.match-branch-2.branch [
      | in-Some+in_ok-push-in-Some w ↦
          some_more h c.args.found.now c.loop-stage.stage c.loop-stage.found c.match-branch-2.found
          c.loop-stage.invariant _ (sym c.in_ok-one.ensures ∙ w.in-Some.is)
          (w.found-is ∙ w.in_ok-push-in-Some.ensures.ok)
      | in-None w ↦
          none_more h c.args.found.now c.loop-stage.stage c.loop-stage.found c.match-branch-2.found
          c.loop-stage.invariant (sym c.in_ok-one.ensures ∙ w.in-None.is) w.found-is
    ]
