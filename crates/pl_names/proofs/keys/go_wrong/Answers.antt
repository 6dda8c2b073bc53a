use Rattle.std.proofs.Common.{ap₂, ◌∙◌}
use Rattle.std.specs.Prelude.{◌||◌}
use Rattle.pl_names.proofs.Pieces.{segments_told}
use Rattle.pl_names.proofs.keys.go_wrong.Goals as goal

pub returns-in-len3-up : goal.returns-in-len3-up
returns-in-len3-up c =
    ap₂ (λ a b. a || b)
    (ap₂ (λ a b. a || b) c.pieces_go_wrong.ensures c.goes_wrong_in.ensures) c.ends_badly.ensures
    ∙ segments_told c.args.bytes.now c.split_at.result.1.now c.requires c.split_at.ensures.back
