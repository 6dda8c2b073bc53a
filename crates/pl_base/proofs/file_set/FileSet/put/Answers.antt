use Rattle.std.proofs.Common.{◌∙◌, ap}
use Rattle.std.specs.FinMap as map
use Rattle.pl_base.proofs.FileKeys.{one_put}
use Rattle.pl_base.proofs.file_set.FileSet.put.Goals as goal

pub returns-clause-ok : goal.returns-clause-ok
returns-clause-ok c =
    one_put c.self.inside.texts.entries c.insert.new.self.entries c.args.key c.args.text
    c.in_ok-insert.ensures.updates.0
    ∙ ap (λ set. map.insert set c.args.key c.args.text) c.self.view_is
