use Rattle.std.proofs.Common.{◌∙◌, ap, sym}
use Rattle.std.specs.FinMap as finite
use Rattle.pl_root.proofs.Entries.{get_entry}
use Rattle.pl_root.proofs.mem_files.MemFiles.get.Goals as goal

pub returns : goal.returns
returns c =
    c.get.ensures.value ∙ sym (get_entry c.self.inside.files.entries c.args.key.now)
    ∙ ap (λ set. finite.get set c.args.key.now) c.self.view_is
