use Rattle.std.proofs.Common.{ap, ◌∙◌}
use Rattle.std.specs.FinMap as finite
use Rattle.pl_file_sets.proofs.Sets.{files_are, put_told}
use Rattle.pl_file_sets.proofs.shared_files.SharedFiles.put.Goals as goal

pub invariant_of-self-inside : goal.invariant_of-self-inside
invariant_of-self-inside c = (
  (
    finite.insert c.self.inside.files.0 c.args.file.key c.args.file.text,
    put_told c.self.inside.trie c.in_ok-self-inside.field-0 c.self.inside.files c.args.file.key
        c.args.file.text c.in_ok-self-inside.ensures,
  ),
  tt,
)

pub returns-clause-ok : goal.returns-clause-ok
returns-clause-ok c =
    files_are _ c.self-1.given.0 (finite.insert c.self.inside.files.0 c.args.file.key c.args.file.text)
    (put_told c.self.inside.trie c.in_ok-self-inside.field-0 c.self.inside.files c.args.file.key
    c.args.file.text c.in_ok-self-inside.ensures)
    ∙ ap (λ files. finite.insert files c.args.file.key c.args.file.text) c.self.view_is
