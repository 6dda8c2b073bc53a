use Rattle.std.proofs.Common.{ap, ◌∙◌}
use Rattle.std.specs.Prelude.{codes}
use Rattle.pl_literal.specs.Booleans.{spells}
use Rattle.pl_cond.proofs.Roots.{at_dependencies, at_none, at_stage_dependencies, at_variables}
use Rattle.pl_cond.proofs.Roots.{if_ok}
use Rattle.pl_cond.proofs.context.root_along.Goals as goal

pub returns-then-spells : goal.returns-then-spells
returns-then-spells c =
    at_dependencies c.args.context.now.plan.now c.args.context.now.view.now
    c.args.context.now.node c.args.variables.now c.args.root.now c.args.names.now
    c.args.context.now.here c.in_ok-dependencies_along.field-0 c.requires.here
    (c.if-spells.ensures ∙ ap (λ t. spells t (codes "dependencies")) c.as_str.ensures)
    c.in_ok-dependencies_along.ensures

pub returns-then-spells-2 : goal.returns-then-spells-2
returns-then-spells-2 c =
    if_ok _ _ c.stage_dependencies_along.result (λ value found.
    at_stage_dependencies c.args.context.now.plan.now c.args.context.now.view.now
    c.args.context.now.node c.args.variables.now c.args.root.now c.args.names.now
    c.args.context.now.here value c.requires.here
    (c.if-spells.ensures ∙ ap (λ t. spells t (codes "dependencies")) c.as_str.ensures)
    (c.if-spells-2.ensures ∙ ap (λ t. spells t (codes "stageDependencies")) c.as_str-2.ensures)
    found) c.stage_dependencies_along.ensures

pub returns-then-spells-3 : goal.returns-then-spells-3
returns-then-spells-3 c =
    if_ok _ _ c.variables_along.result (λ value found.
    at_variables c.args.context.now.plan.now c.args.context.now.view.now
    c.args.context.now.node c.args.variables.now c.args.root.now c.args.names.now
    c.args.context.now.here value c.requires.here
    (c.if-spells.ensures ∙ ap (λ t. spells t (codes "dependencies")) c.as_str.ensures)
    (c.if-spells-2.ensures ∙ ap (λ t. spells t (codes "stageDependencies")) c.as_str-2.ensures)
    (c.if-spells-3.ensures ∙ ap (λ t. spells t (codes "variables")) c.as_str-3.ensures)
    found) c.variables_along.ensures

pub returns : goal.returns
returns c =
    λ empty. at_none c.args.context.now.plan.now c.args.context.now.view.now
    c.args.context.now.node c.args.variables.now c.args.root.now c.args.names.now
    (c.if-spells.ensures ∙ ap (λ t. spells t (codes "dependencies")) c.as_str.ensures)
    (c.if-spells-2.ensures ∙ ap (λ t. spells t (codes "stageDependencies")) c.as_str-2.ensures)
    (c.if-spells-3.ensures ∙ ap (λ t. spells t (codes "variables")) c.as_str-3.ensures)
