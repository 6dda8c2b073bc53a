use Rattle.std.proofs.Common.{ap, sym, ◌∙◌}
use Rattle.pl_results.specs.declared.parts.Group.{Group}
use Rattle.pl_results.specs.Parts.{job_parts, stage_groups}
use Rattle.pl_cond.specs.Objects.{groups_value, parts_value}
use Rattle.pl_cond.specs.Paths.{inside}
use Rattle.pl_cond.proofs.Inside.{first_is, nowhere, rest_of, through}
use Rattle.pl_cond.proofs.Roots.{if_ok}
use Rattle.pl_cond.proofs.paths.groups_along.Goals as goal

pub returns-in-Some : goal.returns-in-Some
returns-in-Some c =
    let here = c.args.here.now in
    let groups = stage_groups c.args.plan.now c.args.view.now c.args.depends.now in
    let rest = rest_of c.args.names.now in
    if_ok _ _ c.jobs_along.result (λ value found. ap (inside here (groups_value here groups))
    (first_is c.args.names.now c.name-item.result c.in-len1-up.len_at_least c.name-item.is)
    ∙ through here (λ (group : Group). group.name)
    (λ (group : Group). parts_value here (job_parts group.legs)) groups
    c.name-item.result rest c.in-Some.group value
    (sym c.in-Some.is ∙ c.in_ok-group-in-len1-up.ensures)
    (ap (λ legs. inside here (parts_value here (job_parts legs)) rest) (sym c.as_slice.ensures)
    ∙ found)) c.jobs_along.ensures

pub returns-in-None : goal.returns-in-None
returns-in-None c =
    let here = c.args.here.now in
    let groups = stage_groups c.args.plan.now c.args.view.now c.args.depends.now in
    ap (inside here (groups_value here groups))
    (first_is c.args.names.now c.name-item.result c.in-len1-up.len_at_least c.name-item.is)
    ∙ nowhere here (λ (group : Group). group.name)
    (λ (group : Group). parts_value here (job_parts group.legs)) groups
    c.name-item.result (rest_of c.args.names.now)
    (sym c.in-None.is ∙ c.in_ok-group-in-len1-up.ensures)
