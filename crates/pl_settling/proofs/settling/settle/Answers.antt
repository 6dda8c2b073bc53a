use Rattle.std.proofs.Common.{subst, sym}
use Rattle.pl_due.specs.Due.{IsDue}
use Rattle.pl_due.specs.Fit.{AreFit}
use Rattle.pl_due.specs.Below.pl_journal.specs.Log.{Log}
use Rattle.pl_settling.proofs.Turns.{SoFar, begun, less_left, on_err, one_more, over, still_fit}
use Rattle.pl_settling.proofs.settling.settle.Goals as goal

pub loop-event-init : goal.loop-event-init
loop-event-init c = record {
  fit = c.requires.fit;
  so_far = begun c.args.moment c.args.journal.now;
}

pub loop-event-preserved : goal.loop-event-preserved
loop-event-preserved c =
    let moment = c.args.moment in
    let now = c.loop-event.journal in
    let new = c.push.new.self in
    let due = subst (IsDue now.facts moment) c.in-Some.is c.in_ok-event.ensures in
    record {
      fit = still_fit moment now new c.in-Some.event c.requires.moment
          c.loop-event.invariant.fit due c.in_ok-push-in-Some.ensures.ok;
      so_far = one_more moment c.args.journal.now now new c.in-Some.event
          c.loop-event.invariant.so_far due c.in_ok-push-in-Some.ensures.ok;
    }

pub loop-event-smaller : goal.loop-event-smaller
loop-event-smaller c =
    let now = c.loop-event.journal in
    less_left c.args.moment c.args.journal.now now c.push.new.self c.in-Some.event
    c.loop-event.invariant.so_far
    (subst (IsDue now.facts c.args.moment) c.in-Some.is c.in_ok-event.ensures)
    c.in_ok-push-in-Some.ensures.ok

pub due-requires-clause-fit : goal.due-requires-clause-fit
due-requires-clause-fit c = c.loop-event.invariant.fit

pub returns-in_err-event-clause-err : goal.returns-in_err-event-clause-err
returns-in_err-event-clause-err c = on_err c.from_residual.result _ c.loop-event.invariant.so_far

pub returns-in_err-event-clause-fit : goal.returns-in_err-event-clause-fit
returns-in_err-event-clause-fit c = c.loop-event.invariant.fit

pub returns-in_err-push-in-Some-clause-err : goal.returns-in_err-push-in-Some-clause-err
returns-in_err-push-in-Some-clause-err c =
    on_err c.from_residual-in_err-push-in-Some.result _
    (subst (SoFar c.args.moment c.args.journal.now) (sym c.in_err-push-in-Some.ensures.err)
    c.loop-event.invariant.so_far)

pub returns-in_err-push-in-Some-clause-fit : goal.returns-in_err-push-in-Some-clause-fit
returns-in_err-push-in-Some-clause-fit c =
    subst (λ (log : Log). AreFit log.facts) (sym c.in_err-push-in-Some.ensures.err)
    c.loop-event.invariant.fit

pub returns-in-None-clause-ok : goal.returns-in-None-clause-ok
returns-in-None-clause-ok c =
    over c.args.moment c.args.journal.now c.loop-event.journal c.loop-event.invariant.so_far
    (subst (IsDue c.loop-event.journal.facts c.args.moment) c.in-None.is c.in_ok-event.ensures)

pub returns-in-None-clause-fit : goal.returns-in-None-clause-fit
returns-in-None-clause-fit c = c.loop-event.invariant.fit
