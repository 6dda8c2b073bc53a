use Rattle.std.proofs.Common.{ap, flat_map, ◌∙◌}
use Rattle.pl_cond.proofs.Roots.{if_ok}
use Rattle.pl_journal.specs.Log.{Log}
use Rattle.pl_due.specs.Open.{of_run, runs, waits}
use Rattle.pl_due.proofs.open_stages.open_stages.Goals as goal

pub returns-clause-running : goal.returns-clause-running
returns-clause-running c = if_ok _ _ c.stages_of.result (λ all is. is
    ∙ ap (λ (log : Log). flat_map (of_run log.facts (runs log.facts)) c.open_runs.result.now)
    c.journal.ensures
    ∙ ap (flat_map (of_run c.args.journal.now.facts (runs c.args.journal.now.facts)))
    c.open_runs.ensures)
    c.stages_of.ensures.running

pub returns-clause-waiting : goal.returns-clause-waiting
returns-clause-waiting c = if_ok _ _ c.stages_of.result (λ all is. is
    ∙ ap (λ (log : Log). flat_map (of_run log.facts (waits log.facts)) c.open_runs.result.now)
    c.journal.ensures
    ∙ ap (flat_map (of_run c.args.journal.now.facts (waits c.args.journal.now.facts)))
    c.open_runs.ensures)
    c.stages_of.ensures.waiting
