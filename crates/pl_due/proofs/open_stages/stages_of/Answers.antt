use Rattle.std.proofs.Common.{get_or, refl}
use Rattle.std.proofs.lemmas.List.{get_or_default}
use Rattle.pl_due.specs.Open.{of_run, runs, waits}
use Rattle.pl_due.proofs.Looping.{all_lists, lists_more}
use Rattle.pl_due.proofs.open_stages.stages_of.Goals as goal

pub loop-run-preserved : goal.loop-run-preserved
loop-run-preserved c =
    let facts = c.args.journal.now.facts in
    let i = c.loop-run.run-index in
    let run = get_or c.args.runs.now i 0 in
    let is = get_or_default c.args.runs.now i 0 run c.loop-run-test.true in
    record {
      running = lists_more (of_run facts (runs facts)) c.args.runs.now i run c.loop-run.running
          c.push_run.new.running c.loop-run-test.true is c.loop-run.invariant.running
          c.in_ok-push_run.ensures.running;
      waiting = lists_more (of_run facts (waits facts)) c.args.runs.now i run c.loop-run.waiting
          c.push_run.new.waiting c.loop-run-test.true is c.loop-run.invariant.waiting
          c.in_ok-push_run.ensures.waiting;
    }

pub returns-clause-running : goal.returns-clause-running
returns-clause-running c =
    let facts = c.args.journal.now.facts in
    all_lists (of_run facts (runs facts)) c.args.runs.now c.args.runs.now c.loop-run.run-index
    c.loop-run.running c.loop-run-test.false refl c.loop-run.invariant.running

pub returns-clause-waiting : goal.returns-clause-waiting
returns-clause-waiting c =
    let facts = c.args.journal.now.facts in
    all_lists (of_run facts (waits facts)) c.args.runs.now c.args.runs.now c.loop-run.run-index
    c.loop-run.waiting c.loop-run-test.false refl c.loop-run.invariant.waiting
