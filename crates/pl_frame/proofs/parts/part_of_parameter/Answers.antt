use Rattle.std.proofs.Common.{Some, None, ap, sym, ◌∙◌}
use Rattle.std.specs.Option.{option_copied}
use Rattle.pl_eval.specs.declared.parts.RootPart.TheVariants.{Found}
use Rattle.pl_frame.proofs.Moved.{part_taken}
use Rattle.pl_frame.proofs.parts.part_of_parameter.Goals as goal

pub returns-in_ok-taken_of-in-Some : goal.returns-in_ok-taken_of-in-Some
returns-in_ok-taken_of-in-Some c =
    ap (λ node. Found node) c.in_ok-taken_of-in-Some.ensures
    ∙ part_taken c.args.place.now c.args.parameter.now c.args.path.now (Some c.in-Some.found.now)
    (sym (ap option_copied c.in-Some.is) ∙ c.in_ok-found.ensures)

pub returns-in-None : goal.returns-in-None
returns-in-None c =
    part_taken c.args.place.now c.args.parameter.now c.args.path.now None
    (sym (ap option_copied c.in-None.is) ∙ c.in_ok-found.ensures)
