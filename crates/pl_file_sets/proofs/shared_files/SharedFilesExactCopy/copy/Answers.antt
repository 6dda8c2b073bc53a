use Rattle.std.proofs.Common.{◌∙◌}
use Rattle.pl_file_sets.proofs.Sets.{files_are, same_told}
use Rattle.pl_file_sets.proofs.shared_files.SharedFilesExactCopy.copy.Goals as goal

pub invariant_of-result : goal.invariant_of-result
invariant_of-result c = (
  (
    c.self.inside.files.0,
    same_told c.self.inside.trie c.in_ok-trie.trie c.self.inside.files c.in_ok-trie.ensures,
  ),
  tt,
)

pub returns : goal.returns
returns c =
    files_are _ c.result-1.given.0 c.self.inside.files.0
    (same_told c.self.inside.trie c.in_ok-trie.trie c.self.inside.files c.in_ok-trie.ensures)
    ∙ c.self.view_is
