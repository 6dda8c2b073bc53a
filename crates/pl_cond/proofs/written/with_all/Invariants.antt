use Rattle.std.proofs.Common.{◌≡◌, drop, fold}
use Rattle.pl_cond.specs.Variables.{with_variable}
use Rattle.pl_cond.proofs.written.with_all.Given as goal

abbrev pub invariant-loop-one : goal.invariant-loop-one
invariant-loop-one l =
    fold (with_variable l.context.plan.now l.context.view.now l.context.node)
    l.initial.all.variables l.written
    ≡ fold (with_variable l.context.plan.now l.context.view.now l.context.node)
    l.all.variables (drop l.one-index l.written)
