-- The files of a trie.
use Rattle.std.proofs.Common.{sym, ◌∙◌}
use Rattle.std.specs.Prelude.{ℕ, List}
use Rattle.std.specs.Coded.{Coded-set, Π_prop, coded_list, coded_option, coded_ℕ}
use Rattle.std.specs.FinMap as finite
use Rattle.pl_base.proofs.FileKeys.{exact_files, files_total}
use Rattle.pl_base.specs.Files.{file_cmp}
use Rattle.pl_file_sets.specs.Tries.{Tells}
use Rattle.pl_file_sets.specs.declared.trie.Trie.{Trie}
use mathlib.Core.HLevel.{Σ_prop_path}

-- the finite map that has at each key what the trie tells from its first bit
abbrev pub FilesOf : Trie → Type 0
FilesOf trie = (files : finite.FinMap file_cmp (List ℕ)) × Tells 31 trie (finite.get files)

-- there is one at most
pub FilesOf-prop : (trie : Trie) → IsProp (FilesOf trie)
FilesOf-prop trie a b =
    Σ_prop_path
    (λ files. Π_prop (λ key. Coded-set (coded_option (coded_list coded_ℕ)) _ _))
    (finite.same_map files_total exact_files a.0 b.0 (λ key. sym (a.1 key) ∙ b.1 key))
