use Rattle.std.proofs.Common.{ap, sym, ◌∙◌}
use Rattle.pl_bundle.specs.Bundles.{content}
use Rattle.pl_bundle.proofs.Cutting.{content_cut, content_whole}
use Rattle.pl_bundle.proofs.lines.content.Goals as goal

pub returns-in-Some : goal.returns-in-Some
returns-in-Some c =
    sym (ap content c.in-Some.ensures.0 ∙ content_cut _ c.in-Some._rest.now c.in-Some.ensures.1)

pub returns-in-None : goal.returns-in-None
returns-in-None c = sym (content_whole c.args.line.now c.in-None.ensures)
