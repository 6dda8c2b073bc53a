use Rattle.std.proofs.Common.{◌<◌, ◌+◌, List, subst, sym, take}
use Rattle.std.specs.Option.{IfSome}
use Rattle.std.proofs.lemmas.List.{take_all}
use Rattle.pl_checks.specs.declared.check.Check.{Check}
use Rattle.pl_wakes.specs.Steady.{AreSteady, IsSteady}
use Rattle.pl_wakes.proofs.Staying.{later_both, steady_more}
use Rattle.pl_wakes.proofs.steady.steady_until.Goals as goal

pub loop-check-preserved : goal.loop-check-preserved
loop-check-preserved c =
    let checks = c.args.checks.now in
    let moment = c.args.moment in
    let until = c.loop-check.until in
    let one = c.check_until.result in
    record {
      later = subst (λ both. IfSome both (λ at. moment < at)) (sym c.sooner-until.ensures)
          (later_both moment until one c.loop-check.invariant.later c.check_until.ensures.later);
      steady = subst (AreSteady (take (c.loop-check.check-index + 1) checks) c.args.ready moment)
          (sym c.sooner-until.ensures)
          (steady_more checks c.loop-check.check-index c.check-item.result c.args.ready moment
          until one c.loop-check-test.true c.loop-check.invariant.steady
          (λ view is. subst (λ (check : Check). IsSteady check view moment one) c.check-item.is
          (c.check_until.ensures.steady view is)));
    }

pub returns-clause-steady : goal.returns-clause-steady
returns-clause-steady c =
    subst (λ (checks : List Check). AreSteady checks c.args.ready c.args.moment c.loop-check.until)
    (take_all c.loop-check.check-index c.args.checks.now c.loop-check-test.false)
    c.loop-check.invariant.steady
