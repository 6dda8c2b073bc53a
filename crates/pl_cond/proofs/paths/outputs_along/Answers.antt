use Rattle.std.proofs.Common.{ap, sym, ◌∙◌}
use Rattle.pl_cond.specs.Objects.{outputs_value}
use Rattle.pl_cond.specs.Paths.{inside}
use Rattle.pl_cond.proofs.Inside.{first_is, rest_of}
use Rattle.pl_cond.proofs.Keyed.{output_nowhere, output_there}
use Rattle.pl_cond.proofs.paths.outputs_along.Goals as goal

pub returns-in-Some : goal.returns-in-Some
returns-in-Some c =
    let here = c.args.here.now in
    let legs = c.args.legs.now in
    ap (inside here (outputs_value here legs))
    (first_is c.args.names.now c.key-item.result c.in-len1-up.len_at_least c.key-item.is)
    ∙ output_there here legs c.key-item.result (rest_of c.args.names.now) c.in-Some.text
    c.atom_along.result (sym c.in-Some.is ∙ c.in_ok-text-in-len1-up.ensures)
    (c.atom_along.ensures here)

pub returns-in-None : goal.returns-in-None
returns-in-None c =
    let here = c.args.here.now in
    let legs = c.args.legs.now in
    ap (inside here (outputs_value here legs))
    (first_is c.args.names.now c.key-item.result c.in-len1-up.len_at_least c.key-item.is)
    ∙ output_nowhere here legs c.key-item.result (rest_of c.args.names.now)
    (sym c.in-None.is ∙ c.in_ok-text-in-len1-up.ensures)
