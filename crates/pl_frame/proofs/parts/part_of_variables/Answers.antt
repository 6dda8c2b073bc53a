use Rattle.std.proofs.Common.{◌≡◌, Some, None, IfOk, subst, ap, sym, ◌∙◌}
use Rattle.std.specs.Option.{option_copied}
use Rattle.pl_base.specs.declared.origin.Origin.{Origin}
use Rattle.pl_eval.specs.declared.parts.RootPart.{RootPart}
use Rattle.pl_eval.specs.LookUps.{found_behind, made, part_of}
use Rattle.pl_frame.specs.Members.{variable_at}
use Rattle.pl_frame.specs.Names.{variable_pair}
use Rattle.pl_frame.specs.Origins.{made_at}
use Rattle.pl_frame.specs.Trees.{all_moved}
use Rattle.pl_frame.proofs.Found.{part_made}
use Rattle.pl_frame.proofs.parts.part_of_variables.Goals as goal

pub returns-in-Some-2 : goal.returns-in-Some-2
returns-in-Some-2 c =
    let frame = c.args.frame.now in
    let place = c.args.place.now in
    let value = c.in-Some-2.variable.now.value in
    let P : RootPart → Type 0 = λ meant. IfOk c.part_of_variable.result (λ part. part ≡ meant) in
    subst P
    (ap (λ (here : Origin). part_of
    (Some (found_behind c.in-Some.rest.now (made here (all_moved (λ _. here) value)))))
    c.in_ok-here.ensures
    ∙ part_made (variable_pair frame place) frame.variables (made_at frame place)
    c.in-Some.at.now c.in-Some.rest.now c.args.path.now (Some c.in-Some-2.variable.now)
    c.in-Some.ensures.cases.0
    (sym (ap option_copied c.in-Some-2.is)
    ∙ (c.in_ok-variable.ensures
    ∙ ap (λ variables. variable_at variables c.in-Some.at.now) (c.all.ensures ∙ c.deref.ensures))))
    c.part_of_variable.ensures

pub returns : goal.returns
returns c =
    let frame = c.args.frame.now in
    let place = c.args.place.now in
    part_made (variable_pair frame place) frame.variables (made_at frame place)
    c.in-Some.at.now c.in-Some.rest.now c.args.path.now None c.in-Some.ensures.cases.0
    (sym (ap option_copied c.in-None.is)
    ∙ (c.in_ok-variable.ensures
    ∙ ap (λ variables. variable_at variables c.in-Some.at.now) (c.all.ensures ∙ c.deref.ensures)))
