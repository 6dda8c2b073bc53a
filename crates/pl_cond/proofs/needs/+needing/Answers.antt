use Rattle.std.proofs.Common.{ap, sym, ◌∙◌}
use Rattle.std.specs.Prelude.{codes}
use Rattle.pl_literal.specs.Booleans.{spells}
use Rattle.pl_cond.proofs.Needed.{need_all, need_more, needs_call, needs_index, needs_project}
use Rattle.pl_cond.proofs.Needed.{needs_root, needs_same}
use Rattle.pl_cond.proofs.needs.+needing.Goals as goal

pub any_has_variables-loop-argument-preserved : goal.any_has_variables-loop-argument-preserved
any_has_variables-loop-argument-preserved n c =
    need_more c.as_slice-argument-items.result.now c.loop-argument.argument-index
    c.argument-item.result c.loop-argument-test.true c.argument-item.is c.loop-argument.invariant
    (c.has_variables.ensures c.if-has_variables.false)

pub any_has_variables-returns : goal.any_has_variables-returns
any_has_variables-returns n c =
    λ is. need_all c.as_slice-argument-items.result.now c.args.arguments.now
    c.loop-argument.argument-index c.loop-argument-test.false c.as_slice-argument-items.ensures
    c.loop-argument.invariant

pub has_variables-returns-in-Root : goal.has_variables-returns-in-Root
has_variables-returns-in-Root n c =
    λ is. needs_root c.args.expr.now c.in-Root.name c.in-Root.is (sym is ∙ c.spells.ensures
    ∙ ap (λ t. spells t (codes "variables")) c.as_str.ensures)

pub has_variables-returns-else-has_variables : goal.has_variables-returns-else-has_variables
has_variables-returns-else-has_variables n c =
    λ is. needs_index c.args.expr.now c.in-Index.of c.in-Index.at c.in-Index.is
    (needs_same c.get.result.now c.in-Index.of c.get.ensures
    (c.has_variables.ensures c.if-has_variables.false))
    (needs_same c.get-else-has_variables.result.now c.in-Index.at c.get-else-has_variables.ensures
    (c.has_variables-else-has_variables.ensures is))

pub has_variables-returns-in-Project : goal.has_variables-returns-in-Project
has_variables-returns-in-Project n c =
    λ is. needs_project c.args.expr.now c.in-Project.of c.in-Project.field-1 c.in-Project.is
    (needs_same c.get-in-Project.result.now c.in-Project.of c.get-in-Project.ensures
    (c.has_variables-in-Project.ensures is))

pub has_variables-returns-in-Call : goal.has_variables-returns-in-Call
has_variables-returns-in-Call n c =
    λ is. needs_call c.args.expr.now c.in-Call.field-0 c.in-Call.arguments c.in-Call.is
    (c.any_has_variables.ensures is)
