use Rattle.std.proofs.Common.{◌++◌, length, ap, arith, sym, ◌∙◌}
use Rattle.pl_plan.specs.declared.plan.Compiled.{Compiled}
use Rattle.pl_due.specs.Open.{passing, runs, waits}
use Rattle.pl_due.proofs.Fits.{few_stages}
use Rattle.pl_due.proofs.Opened.{no_run, of_told}
use Rattle.pl_due.proofs.open_stages.push_run.Goals as goal

pub push_stages-requires : goal.push_stages-requires
push_stages-requires c = omega (
  arith,
  few_stages c.args.journal.now.facts c.args.run c.in-Some.queued.now c.requires
      (sym c.in-Some.ensures),
  ap length c.as_slice-stages.ensures,
  ap (λ (one : Compiled). length one.plan.stages) c.deref.ensures,
)

pub returns-in_ok-push_stages-in-Some-clause-running :
    goal.returns-in_ok-push_stages-in-Some-clause-running
returns-in_ok-push_stages-in-Some-clause-running c =
    let facts = c.args.journal.now.facts in
    c.in_ok-push_stages-in-Some.ensures.running
    ∙ ap (λ stages. c.args.running.now ++ passing (runs facts) stages c.args.run (length stages))
    c.as_slice-stages.ensures
    ∙ ap (λ (one : Compiled). c.args.running.now ++ passing (runs facts) one.plan.stages c.args.run
    (length one.plan.stages)) c.deref.ensures
    ∙ ap (λ places. c.args.running.now ++ places)
    (sym (of_told facts (runs facts) c.args.run c.in-Some.queued.now (sym c.in-Some.ensures)))

pub returns-in-None-clause-running : goal.returns-in-None-clause-running
returns-in-None-clause-running c =
    let facts = c.args.journal.now.facts in
    no_run facts (runs facts) c.args.run c.args.running.now (sym c.in-None.ensures)

pub returns-in_ok-push_stages-in-Some-clause-waiting :
    goal.returns-in_ok-push_stages-in-Some-clause-waiting
returns-in_ok-push_stages-in-Some-clause-waiting c =
    let facts = c.args.journal.now.facts in
    c.in_ok-push_stages-in-Some.ensures.waiting
    ∙ ap (λ stages. c.args.waiting.now ++ passing (waits facts) stages c.args.run (length stages))
    c.as_slice-stages.ensures
    ∙ ap (λ (one : Compiled). c.args.waiting.now ++ passing (waits facts) one.plan.stages c.args.run
    (length one.plan.stages)) c.deref.ensures
    ∙ ap (λ places. c.args.waiting.now ++ places)
    (sym (of_told facts (waits facts) c.args.run c.in-Some.queued.now (sym c.in-Some.ensures)))

pub returns-in-None-clause-waiting : goal.returns-in-None-clause-waiting
returns-in-None-clause-waiting c =
    let facts = c.args.journal.now.facts in
    no_run facts (waits facts) c.args.run c.args.waiting.now (sym c.in-None.ensures)
