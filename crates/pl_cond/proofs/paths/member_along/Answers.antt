use Rattle.std.proofs.Common.{ap, sym, ◌∙◌}
use Rattle.std.specs.Prelude.{codes}
use Rattle.pl_literal.specs.Booleans.{spells}
use Rattle.pl_cond.proofs.Members.{no_part}
use Rattle.pl_cond.proofs.paths.member_along.Goals as goal

pub returns : goal.returns
returns c =
    no_part c.args.here.now c.args.part.now c.args.name.now c.args.rest.now
    (sym (c.if-spells.ensures ∙ ap (λ t. spells t (codes "result")) c.as_str.ensures))
    (sym (c.if-spells-2.ensures ∙ ap (λ t. spells t (codes "outputs")) c.as_str-2.ensures))
