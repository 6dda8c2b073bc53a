use Rattle.std.proofs.Common.{◌∙◌, ap, sym}
use Rattle.std.specs.FinMap as map
use Rattle.pl_base.proofs.FileKeys.{get_text}
use Rattle.pl_base.proofs.file_set.FileSet.get.Goals as goal

pub returns : goal.returns
returns c = c.get.ensures.value ∙ sym (get_text c.self.inside.texts.entries c.args.key.now) ∙
    ap (λ set. map.get set c.args.key.now) c.self.view_is
