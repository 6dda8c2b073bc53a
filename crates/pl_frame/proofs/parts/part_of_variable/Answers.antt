use Rattle.std.proofs.Common.{Some, None, ap, sym, ◌∙◌}
use Rattle.std.specs.Option.{option_and_then, option_copied}
use Rattle.pl_eval.specs.declared.parts.RootPart.TheVariants.{Found}
use Rattle.pl_eval.specs.LookUps.{found_behind}
use Rattle.pl_frame.proofs.Moved.{part_everywhere}
use Rattle.pl_frame.proofs.parts.part_of_variable.Goals as goal

pub returns-in_default-2 : goal.returns-in_default-2
returns-in_default-2 c =
    part_everywhere c.args.here.now c.args.variable.now.value c.in-Some.at.now c.in-Some.rest.now
    c.args.path.now None c.in-Some.ensures.cases.0
    (ap (option_and_then (found_behind c.in-Some.rest.now))
    (sym (ap option_copied c.in_default-2.is) ∙ c.in_ok-node.ensures))

pub returns-in_ok-move_node_to-in-Some-3 : goal.returns-in_ok-move_node_to-in-Some-3
returns-in_ok-move_node_to-in-Some-3 c =
    ap (λ node. Found node) c.in_ok-move_node_to-in-Some-3.ensures
    ∙ part_everywhere c.args.here.now c.args.variable.now.value c.in-Some.at.now
    c.in-Some.rest.now c.args.path.now (Some c.in-Some-3.found.now) c.in-Some.ensures.cases.0
    (sym (ap option_copied c.in-Some-3.is)
    ∙ (c.in_ok-found.ensures
    ∙ ap (option_and_then (found_behind c.in-Some.rest.now))
    (sym (ap option_copied c.in-Some-2.is) ∙ c.in_ok-node.ensures)))

pub returns-in-None : goal.returns-in-None
returns-in-None c =
    part_everywhere c.args.here.now c.args.variable.now.value c.in-Some.at.now c.in-Some.rest.now
    c.args.path.now None c.in-Some.ensures.cases.0
    (sym (ap option_copied c.in-None.is)
    ∙ (c.in_ok-found.ensures
    ∙ ap (option_and_then (found_behind c.in-Some.rest.now))
    (sym (ap option_copied c.in-Some-2.is) ∙ c.in_ok-node.ensures)))
