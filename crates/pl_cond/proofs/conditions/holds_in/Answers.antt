use Rattle.std.proofs.Common.{ap, sym, ◌∙◌}
use Rattle.std.specs.Option.{option_copied}
use Rattle.pl_eval.specs.Means.{means}
use Rattle.pl_cond.specs.Conditions.{counts, holds_by}
use Rattle.pl_cond.specs.Contexts.{known_in}
use Rattle.pl_cond.specs.Variables.{variables_at}
use Rattle.pl_cond.proofs.Roots.{if_ok}
use Rattle.pl_cond.proofs.conditions.holds_in.Goals as goal

pub returns-in_ok-variables-in-Some : goal.returns-in_ok-variables-in-Some
returns-in_ok-variables-in-Some c =
    let context = c.args.context.now in
    let condition = c.in-Some.condition.now in
    let all = variables_at context.plan.now context.view.now context.node in
    if_ok _ _ c.counts.result (λ is same. same
    ∙ ap counts (ap (λ vs. means (known_in context vs) context.here condition) c.as_slice.ensures
    ∙ c.in_ok-variables-in-Some.ensures
    ∙ ap (λ here. means (known_in context all) here condition) c.requires.here)
    ∙ ap (λ o. holds_by o context.plan.now context.view.now context.node)
    (sym (ap option_copied c.in-Some.is))) c.counts.ensures
