use Rattle.std.proofs.Common.{codes, ap, ◌∙◌}
use Rattle.std.specs.Option.{option_map}
use Rattle.pl_literal.specs.Booleans.{spells}
use Rattle.pl_eval.specs.LookUps.{found_behind, part_of}
use Rattle.pl_frame.proofs.Named.{in_none}
use Rattle.pl_frame.proofs.names.context_part.Goals as goal

pub returns : goal.returns
returns c =
    ap (λ node. part_of (option_map (found_behind c.args.path.now) node))
    (in_none c.args.frame.now c.args.place.now c.args.root.now
    (c.if-spells.ensures ∙ ap (λ text. spells text (codes "parameters")) c.as_str.ensures)
    (c.if-spells-2.ensures ∙ ap (λ text. spells text (codes "variables")) c.as_str-2.ensures))
