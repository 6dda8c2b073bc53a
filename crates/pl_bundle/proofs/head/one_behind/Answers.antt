use Rattle.std.proofs.Common.{◌∷◌, ap, ◌∙◌}
use Rattle.pl_bundle.specs.Bundles.{three}
use Rattle.pl_bundle.proofs.Cutting.{parts_cut, parts_whole}
use Rattle.pl_bundle.proofs.Texts.{too_many}
use Rattle.pl_bundle.proofs.head.one_behind.Goals as goal

pub returns-in-Some : goal.returns-in-Some
returns-in-Some c =
    ap (λ parts. three (c.args.repo.now ∷ c.args.git_ref.now ∷ parts))
    (parts_cut c.args.path.now _ _ c.in-Some.ensures)
    ∙ too_many _ _ _ c.in-Some._more.1.now

pub returns-in-None : goal.returns-in-None
returns-in-None c =
    ap (λ parts. three (c.args.repo.now ∷ c.args.git_ref.now ∷ parts))
    (parts_whole c.args.path.now c.in-None.ensures)
