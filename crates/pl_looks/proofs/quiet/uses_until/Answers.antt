use Rattle.std.proofs.Common.{◌<◌, ◌+◌, List, flat_map, subst, sym, take}
use Rattle.std.specs.Option.{IfSome}
use Rattle.std.proofs.lemmas.List.{take_all}
use Rattle.pl_base.specs.declared.resource.ResourceKey.{ResourceKey}
use Rattle.pl_checks.specs.declared.check.Check.{Check}
use Rattle.pl_due.specs.Checked.{checks_on}
use Rattle.pl_wakes.proofs.Staying.{later_both}
use Rattle.pl_wakes.specs.Steady.{AreSteady}
use Rattle.pl_looks.proofs.Until.{steady_more}
use Rattle.pl_looks.proofs.quiet.uses_until.Goals as goal

pub loop-key-preserved : goal.loop-key-preserved
loop-key-preserved c =
    let facts = c.args.journal.now.facts in
    let uses = c.args.uses.now in
    let moment = c.args.moment in
    let until = c.loop-key.until in
    let one = c.steady_until.result in
    record {
      later = subst (λ both. IfSome both (λ at. moment < at)) (sym c.sooner-until.ensures)
          (later_both moment until one c.loop-key.invariant.later c.steady_until.ensures.later);
      steady = subst (AreSteady (flat_map (checks_on facts) (take (c.loop-key.key-index + 1) uses))
          c.args.ready moment) (sym c.sooner-until.ensures)
          (steady_more facts uses c.loop-key.key-index c.key-item.result c.args.ready moment until
          one c.loop-key-test.true c.key-item.is c.loop-key.invariant.steady
          (subst (λ (checks : List Check). AreSteady checks c.args.ready moment one)
          c.checks_on.ensures c.steady_until.ensures.steady));
    }

pub returns-clause-steady : goal.returns-clause-steady
returns-clause-steady c = subst (λ (uses : List ResourceKey).
    AreSteady (flat_map (checks_on c.args.journal.now.facts) uses) c.args.ready c.args.moment
    c.loop-key.until)
    (take_all c.loop-key.key-index c.args.uses.now c.loop-key-test.false)
    c.loop-key.invariant.steady
