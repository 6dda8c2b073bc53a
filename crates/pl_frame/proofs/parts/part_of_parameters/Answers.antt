use Rattle.std.proofs.Common.{◌≡◌, Some, None, IfOk, subst, ap, sym, ◌∙◌}
use Rattle.std.specs.Option.{option_copied}
use Rattle.pl_eval.specs.declared.parts.RootPart.{RootPart}
use Rattle.pl_frame.specs.Members.{parameter_at}
use Rattle.pl_frame.specs.Names.{parameter_pair}
use Rattle.pl_frame.specs.Origins.{made_at}
use Rattle.pl_frame.proofs.Found.{part_made}
use Rattle.pl_frame.proofs.parts.part_of_parameters.Goals as goal

pub returns-in-Some-2 : goal.returns-in-Some-2
returns-in-Some-2 c =
    let frame = c.args.frame.now in
    let place = c.args.place.now in
    let P : RootPart → Type 0 = λ meant. IfOk c.part_of_parameter.result (λ part. part ≡ meant) in
    subst P
    (part_made (parameter_pair frame place) frame.parameters (made_at frame place)
    c.in-Some.at.now c.in-Some.rest.now c.args.path.now (Some c.in-Some-2.parameter.now)
    c.in-Some.ensures.cases.0
    (sym (ap option_copied c.in-Some-2.is)
    ∙ (c.in_ok-parameter.ensures
    ∙ ap (λ parameters. parameter_at parameters c.in-Some.at.now) c.deref.ensures)))
    c.part_of_parameter.ensures

pub returns-in-None : goal.returns-in-None
returns-in-None c =
    let frame = c.args.frame.now in
    let place = c.args.place.now in
    part_made (parameter_pair frame place) frame.parameters (made_at frame place)
    c.in-Some.at.now c.in-Some.rest.now c.args.path.now None c.in-Some.ensures.cases.0
    (sym (ap option_copied c.in-None.is)
    ∙ (c.in_ok-parameter.ensures
    ∙ ap (λ parameters. parameter_at parameters c.in-Some.at.now) c.deref.ensures))
