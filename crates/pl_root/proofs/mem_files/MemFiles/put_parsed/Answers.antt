use Rattle.std.proofs.Common.{◌∙◌, ap}
use Rattle.std.specs.FinMap as finite
use Rattle.pl_root.proofs.Entries.{one_put}
use Rattle.pl_root.proofs.mem_files.MemFiles.put_parsed.Goals as goal

pub returns-clause-ok : goal.returns-clause-ok
returns-clause-ok c =
    one_put c.self.inside.files.entries c.insert.new.self.entries c.args.key c.args.file
    c.in_ok-insert.ensures.updates.0
    ∙ ap (λ set. finite.insert set c.args.key c.args.file) c.self.view_is
