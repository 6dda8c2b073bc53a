use Rattle.std.proofs.Common.{ap, ◌∙◌}
use Rattle.pl_journal.specs.Runs.{outcome_told, stage_end}
use Rattle.pl_journal.specs.Settings.{by}
use Rattle.pl_views.proofs.Turns.{range_push}
use Rattle.pl_views.proofs.run_views.stage_results.Goals as goal

pub loop-at-preserved : goal.loop-at-preserved
loop-at-preserved c =
    range_push (λ stage. by outcome_told (stage_end c.args.run stage c.args.journal.now.facts))
    c.loop-at.at c.loop-at.results c.push.new.self c.outcome_of.result c.loop-at.invariant
    c.in_ok-push.ensures.ok
    (c.outcome_of.ensures ∙ ap (by outcome_told) c.stage_end.ensures
    ∙ ap (λ stage. by outcome_told (stage_end c.args.run stage c.args.journal.now.facts))
    c.in_ok-place.ensures)
