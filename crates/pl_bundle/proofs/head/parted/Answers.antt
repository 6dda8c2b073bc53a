use Rattle.std.proofs.Common.{ap, sym, ◌∙◌}
use Rattle.std.specs.List.{slice_split}
use Rattle.pl_bundle.specs.Bundles.{is_space, key_by}
use Rattle.pl_bundle.proofs.Cutting.{parts_cut, parts_whole}
use Rattle.pl_bundle.proofs.Texts.{one_part}
use Rattle.pl_bundle.proofs.head.parted.Goals as goal

pub returns-in-None : goal.returns-in-None
returns-in-None c =
    ap (λ line. key_by (slice_split is_space line)) (sym c.content.ensures)
    ∙ (ap key_by (parts_whole c.content.result.now c.in-None.ensures) ∙
    one_part c.content.result.now)

pub returns-in-Some : goal.returns-in-Some
returns-in-Some c =
    ap (λ line. key_by (slice_split is_space line)) (sym c.content.ensures)
    ∙ (ap key_by (parts_cut c.content.result.now _ _ c.in-Some.ensures) ∙ c.marked.ensures)
