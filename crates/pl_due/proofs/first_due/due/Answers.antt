use Rattle.std.proofs.Common.{subst, sym, ◌∙◌}
use Rattle.pl_cond.proofs.Roots.{if_ok}
use Rattle.pl_journal.specs.Log.{Log}
use Rattle.pl_open_runs.proofs.OpenRuns.{open_runs_ascend, open_runs_hold}
use Rattle.pl_due.specs.Due.{IsDue}
use Rattle.pl_due.specs.Fit.{AreFit}
use Rattle.pl_due.specs.Scans.{HasRunning, HasWaiting}
use Rattle.pl_due.proofs.Opened.{has_running, has_waiting}
use Rattle.pl_due.proofs.first_due.due.Goals as goal

pub first_of_all-requires-clause-fit : goal.first_of_all-requires-clause-fit
first_of_all-requires-clause-fit c =
    subst (λ (log : Log). AreFit log.facts) (sym c.journal.ensures) c.requires.fit

pub first_of_all-requires-clause-running : goal.first_of_all-requires-clause-running
first_of_all-requires-clause-running c =
    let facts = c.args.journal.now.facts in
    subst (λ (log : Log). HasRunning log.facts c.as_slice-running.result.now)
    (sym c.journal.ensures)
    (subst (HasRunning facts) (sym (c.as_slice-running.ensures ∙ c.in_ok-stages.ensures.running))
    (has_running facts (open_runs_ascend facts) (open_runs_hold facts)))

pub first_of_all-requires-clause-waiting : goal.first_of_all-requires-clause-waiting
first_of_all-requires-clause-waiting c =
    let facts = c.args.journal.now.facts in
    subst (λ (log : Log). HasWaiting log.facts c.as_slice-waiting.result.now)
    (sym c.journal.ensures)
    (subst (HasWaiting facts) (sym (c.as_slice-waiting.ensures ∙ c.in_ok-stages.ensures.waiting))
    (has_waiting facts (open_runs_ascend facts) (open_runs_hold facts)))

pub returns : goal.returns
returns c =
    if_ok _ _ c.first_of_all.result (λ found is. subst (λ (log : Log).
    IsDue log.facts c.args.moment found) c.journal.ensures is) c.first_of_all.ensures
