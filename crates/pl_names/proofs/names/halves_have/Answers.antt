use Rattle.std.proofs.Common.{ap, ap₂, ◌∙◌}
use Rattle.std.specs.Prelude.{◌||◌}
use Rattle.pl_names.specs.Bytes.{has_control_behind}
use Rattle.pl_names.proofs.Pieces.{halves_told}
use Rattle.pl_names.proofs.names.halves_have.Goals as goal

pub returns-in-len1-up : goal.returns-in-len1-up
returns-in-len1-up c =
    ap₂ (λ a b. a || b)
    (c.piece_has.ensures ∙ ap (has_control_behind 0) c.split_at.ensures.front)
    c.piece_has-in-len1-up.ensures
    ∙ halves_told c.args.bytes.now c.split_at-2.result.1.now c.requires.long c.requires.short
    c.split_at-2.ensures.back
