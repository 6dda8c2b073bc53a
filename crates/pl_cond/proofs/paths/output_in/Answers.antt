use Rattle.std.proofs.Common.{refl, ap₂, ◌∙◌}
use Rattle.pl_cond.specs.Paths.{behind}
use Rattle.pl_cond.proofs.Keyed.{no_output_behind, output_behind}
use Rattle.pl_cond.proofs.Roots.{if_ok}
use Rattle.pl_cond.proofs.paths.output_in.Goals as goal

pub returns-in-Some : goal.returns-in-Some
returns-in-Some c =
    if_ok _ _ c.output_behind.result (λ found is. is
    ∙ output_behind c.args.leg.now c.args.key.now c.in-Some.name.now _
    (c.in-Some.ensures ∙ ap₂ behind c.as_bytes.ensures c.as_bytes-2.ensures) refl)
    c.output_behind.ensures

pub returns-in-None : goal.returns-in-None
returns-in-None c =
    no_output_behind c.args.leg.now c.args.key.now
    (c.in-None.ensures ∙ ap₂ behind c.as_bytes.ensures c.as_bytes-2.ensures)
