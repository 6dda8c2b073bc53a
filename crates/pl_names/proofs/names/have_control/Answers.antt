use Rattle.std.proofs.Common.{ap₂, ◌∙◌}
use Rattle.std.specs.Prelude.{◌||◌}
use Rattle.pl_names.proofs.Pieces.{controls_told}
use Rattle.pl_names.proofs.names.have_control.Goals as goal

pub returns-in-len1-up : goal.returns-in-len1-up
returns-in-len1-up c =
    ap₂ (λ a b. a || b) c.pieces_have.ensures c.piece_has.ensures
    ∙ controls_told c.args.bytes.now c.split_at.result.1.now c.requires c.split_at.ensures.back
