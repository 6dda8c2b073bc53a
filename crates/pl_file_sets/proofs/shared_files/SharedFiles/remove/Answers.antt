use Rattle.std.proofs.Common.{ap, ◌∙◌}
use Rattle.std.specs.FinMap as finite
use Rattle.pl_file_sets.proofs.Sets.{files_are, removed_told}
use Rattle.pl_file_sets.proofs.shared_files.SharedFiles.remove.Goals as goal

pub invariant_of-self-inside : goal.invariant_of-self-inside
invariant_of-self-inside c = (
  (
    finite.remove c.self.inside.files.0 c.args.key.now,
    removed_told c.self.inside.trie c.in_ok-self-inside.field-0 c.self.inside.files
        c.args.key.now c.in_ok-self-inside.ensures,
  ),
  tt,
)

pub returns-clause-ok : goal.returns-clause-ok
returns-clause-ok c =
    files_are _ c.self-1.given.0 (finite.remove c.self.inside.files.0 c.args.key.now)
    (removed_told c.self.inside.trie c.in_ok-self-inside.field-0 c.self.inside.files
    c.args.key.now c.in_ok-self-inside.ensures)
    ∙ ap (λ files. finite.remove files c.args.key.now) c.self.view_is
