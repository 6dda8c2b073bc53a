use Rattle.std.proofs.Common.{ap, get_or, subst, sym}
use Rattle.std.specs.List.{Contains}
use Rattle.pl_journal.specs.Log.{Log}
use Rattle.pl_due.specs.Below.pl_open_runs.specs.Index.{Ascends}
use Rattle.pl_due.specs.Below.pl_open_runs.proofs.OpenRuns.{open_runs_ascend}
use Rattle.pl_granting.specs.Asked.{of, seen}
use Rattle.pl_granting.specs.Drawn.{Least}
use Rattle.pl_granting.specs.Tests.{IsOpenTo, OfRun}
use Rattle.pl_granting.proofs.LeastJob.{all_found, all_none}
use Rattle.pl_granting.proofs.OpenRun.{is_among}
use Rattle.pl_granting.proofs.drawing.first_of_all.Goals as goal

pub returns-in-Some : goal.returns-in-Some
returns-in-Some c =
    let facts = c.args.journal.now.facts in
    let agent = c.args.agent.now in
    let runs = c.open_runs-run-items.result.now in
    let ascend = subst Ascends (sym c.open_runs-run-items.ensures) (open_runs_ascend facts) in
    let told = ap seen c.in-Some.is in
    subst (Least (IsOpenTo facts agent)) told
    (all_found facts agent runs (λ i j less within. ascend i j 0 less within)
    (λ at is. subst (λ xs. Contains xs at.run) (sym c.open_runs-run-items.ensures)
    (is_among facts agent at is))
    c.loop-run.run-index c.loop-run-test.true c.loop-run.invariant (seen c.first_of_run.result)
    (of c.in-Some.at) told
    (subst (λ (log : Log). Least (OfRun log.facts agent (get_or runs c.loop-run.run-index 0))
    (seen c.first_of_run.result)) c.journal.ensures c.first_of_run.ensures))

pub returns : goal.returns
returns c =
    let facts = c.args.journal.now.facts in
    let agent = c.args.agent.now in
    all_none facts agent c.open_runs-run-items.result.now
    (λ at is. subst (λ xs. Contains xs at.run) (sym c.open_runs-run-items.ensures)
    (is_among facts agent at is))
    c.loop-run.run-index c.loop-run-test.false c.loop-run.invariant
