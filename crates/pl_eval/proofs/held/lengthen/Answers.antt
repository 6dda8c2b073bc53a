use Rattle.std.proofs.Common.{◌≡◌, Result, Ok, subst, ap, sym, ◌∙◌}
use Rattle.pl_base.specs.declared.value.MarkedNode.{MarkedNode}
use Rattle.pl_eval.specs.declared.fault.EvalFault.{EvalFault}
use Rattle.pl_eval.specs.Gives.{Gives}
use Rattle.pl_eval.specs.Held.{part_means}
use Rattle.pl_eval.specs.Known.{root_of}
use Rattle.pl_eval.specs.Means.{indexed}
use Rattle.pl_eval.proofs.Paths.{longer}
use Rattle.pl_eval.proofs.held.lengthen.Goals as goal

pub returns-in-Ok : goal.returns-in-Ok
returns-in-Ok g c meant given =
    let known = g.N.Names.known c.args.names.now in
    let is : meant ≡ Ok c.in-Ok.at = subst (λ (at : Result MarkedNode EvalFault). Gives at meant)
    c.in-Ok.is given in
    ap (indexed c.args.here.now (part_means known c.args.here.now c.args.root.now c.args.path)) is
    ∙ (longer c.args.here.now (root_of known c.args.root.now) c.args.path c.in-Ok.at
    ∙ ap (part_means known c.args.here.now c.args.root.now) (sym c.in_ok-push-in-Ok.ensures.ok))
