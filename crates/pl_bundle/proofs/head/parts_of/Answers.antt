use Rattle.std.proofs.Common.{ap, ◌∙◌}
use Rattle.pl_bundle.specs.Bundles.{three}
use Rattle.pl_bundle.proofs.Cutting.{parts_cut, parts_whole}
use Rattle.pl_bundle.proofs.head.parts_of.Goals as goal

pub returns-in-None : goal.returns-in-None
returns-in-None c = ap three (parts_whole c.args.parts.now c.in-None.ensures)

pub returns-in-Some : goal.returns-in-Some
returns-in-Some c =
    ap three (parts_cut c.args.parts.now _ _ c.in-Some.ensures) ∙ c.two_behind.ensures
