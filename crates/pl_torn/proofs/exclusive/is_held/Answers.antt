use Rattle.std.proofs.Common.{false, true, sym, ◌∙◌}
use Rattle.std.specs.List.{list_any}
use Rattle.pl_torn.specs.Exclusive as spec
use Rattle.pl_torn.proofs.Turns.{both, hit, miss, none}
use Rattle.pl_torn.proofs.exclusive.is_held.Goals as goal

pub returns-then-branch : goal.returns-then-branch
returns-then-branch c =
    let test = spec.runs_on c.args.all.now c.args.planned.now.uses in
    sym (both (spec.is_running c.args.told.now) (list_any test c.args.before.now) true
    (sym c.is_running.ensures ∙ c.if-not-is_running.false)
    (sym c.loop-one.invariant ∙ hit test c.args.before.now c.loop-one.one-index
    c.one-item.result c.one-item.result c.loop-one-test.true c.one-item.is
    (sym c.in_ok-runs_on.ensures ∙ c.if-branch.true)))

pub loop-one-preserved : goal.loop-one-preserved
loop-one-preserved c =
    let test = spec.runs_on c.args.all.now c.args.planned.now.uses in
    miss test c.args.before.now c.loop-one.one-index c.one-item.result c.one-item.result
    c.loop-one-test.true c.one-item.is (sym c.in_ok-runs_on.ensures ∙ c.if-branch.false) ∙
    c.loop-one.invariant

pub returns : goal.returns
returns c =
    let test = spec.runs_on c.args.all.now c.args.planned.now.uses in
    sym (both (spec.is_running c.args.told.now) (list_any test c.args.before.now) false
    (sym c.is_running.ensures ∙ c.if-not-is_running.false)
    (sym c.loop-one.invariant ∙ none test c.args.before.now c.loop-one.one-index
    c.loop-one-test.false))
