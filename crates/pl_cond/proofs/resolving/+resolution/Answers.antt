use Rattle.std.proofs.Common.{ap, sym, ◌∙◌}
use Rattle.pl_eval.specs.Means.{means}
use Rattle.pl_cond.specs.Contexts.{bare_in, known_in}
use Rattle.pl_cond.proofs.Resolved.{means_call, resolved_call}
use Rattle.pl_cond.proofs.resolving.+resolution.Goals as goal

pub resolve-returns-in_ok-arguments-in-Call : goal.resolve-returns-in_ok-arguments-in-Call
resolve-returns-in_ok-arguments-in-Call n c =
    let context = c.args.context.now in
    let known = known_in context c.args.variables.now in
    means_call (bare_in context) context.here c.in-Call.function c.in_ok-arguments-in-Call.arguments
    ∙ resolved_call context c.args.variables.now c.requires c.in-Call.function _ _
    c.in_ok-arguments-in-Call.ensures
    ∙ sym (means_call known context.here c.in-Call.function c.in-Call.arguments)
    ∙ ap (means known context.here) (sym c.in-Call.is)
