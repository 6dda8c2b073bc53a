use Rattle.std.proofs.Common.{List, ap, sym, ◌∙◌}
use Rattle.std.specs.List.{list_any}
use Rattle.pl_eval.specs.Known.{same_name}
use Rattle.pl_results.specs.declared.legs.Leg.{Leg}
use Rattle.pl_results.proofs.Turns.{any_made}
use Rattle.pl_results.proofs.parts.is_before.Goals as goal

pub returns : goal.returns
returns c =
    c.has_name.ensures
    ∙ ap (λ (legs : List Leg). list_any (λ leg. same_name c.args.name.now leg.job) legs)
    c.split_at.ensures.front
    ∙ sym (any_made (λ (leg : Leg). leg.job) (same_name c.args.name.now) _)
