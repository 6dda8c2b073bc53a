use Rattle.std.proofs.Common.{ap, sym, ◌∙◌}
use Rattle.pl_results.specs.declared.parts.Part.{Part}
use Rattle.pl_results.specs.Parts.{stage_parts}
use Rattle.pl_cond.specs.Objects.{part_value, parts_value}
use Rattle.pl_cond.specs.Paths.{inside}
use Rattle.pl_cond.proofs.Inside.{first_is, nowhere, rest_of, through}
use Rattle.pl_cond.proofs.Roots.{if_ok}
use Rattle.pl_cond.proofs.paths.stages_along.Goals as goal

pub returns-in-Some : goal.returns-in-Some
returns-in-Some c =
    let here = c.args.here.now in
    let parts = stage_parts c.args.plan.now c.args.view.now c.args.depends.now in
    if_ok _ _ c.part_along.result (λ value found. ap (inside here (parts_value here parts))
    (first_is c.args.names.now c.name-item.result c.in-len1-up.len_at_least c.name-item.is)
    ∙ through here (λ (part : Part). part.name) (λ (part : Part). part_value here part) parts
    c.name-item.result (rest_of c.args.names.now) c.in-Some.part value
    (sym c.in-Some.is ∙ c.in_ok-part-in-len1-up.ensures) found) c.part_along.ensures

pub returns-in-None : goal.returns-in-None
returns-in-None c =
    let here = c.args.here.now in
    let parts = stage_parts c.args.plan.now c.args.view.now c.args.depends.now in
    ap (inside here (parts_value here parts))
    (first_is c.args.names.now c.name-item.result c.in-len1-up.len_at_least c.name-item.is)
    ∙ nowhere here (λ (part : Part). part.name) (λ (part : Part). part_value here part) parts
    c.name-item.result (rest_of c.args.names.now)
    (sym c.in-None.is ∙ c.in_ok-part-in-len1-up.ensures)
