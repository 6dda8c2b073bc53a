use Rattle.std.proofs.Common.{ap, sym, ◌∙◌, Some, None}
use Rattle.std.specs.FinMap as map
use Rattle.std.specs.Prelude.{if◌then◌else◌}
use Rattle.pl_bundle.specs.Bundles.{files_in, lines_of, of_files, placed}
use Rattle.pl_bundle.proofs.Placing.{whole_bundle}
use Rattle.pl_bundle.proofs.reading.of_files.Goals as goal

pub returns-then-branch : goal.returns-then-branch
returns-then-branch c =
    let files = ap (λ read. read.1) c.requires.opened.0 in
    whole_bundle _ _ c.in-Some.root c.take_files.new.texts
    (sym c.in-Some.is ∙ c.in_ok-root.ensures)
    (sym (ap (placed map.empty) files)
    ∙ (ap (λ texts. placed texts (files_in (lines_of c.args.bytes.now)).1)
    (sym c.new-files.ensures)
    ∙ (c.in_ok-take_files.ensures
    ∙ ap (λ good. if good then Some c.take_files.new.texts else None) c.if-branch.true)))
    ∙ sym (ap of_files files)
