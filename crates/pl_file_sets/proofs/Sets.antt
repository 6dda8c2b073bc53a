-- What the files of a trie are.
use Rattle.std.proofs.Common.{◌≡◌, ℕ, List, [], cond, Some, None, sym, ap, ◌∙◌}
use Rattle.std.specs.FinMap as finite
use Rattle.std.specs.FinMap.{get-empty, get-insert, get-remove}
use Rattle.pl_base.proofs.FileKeys.{exact_files, files_total}
use Rattle.pl_base.specs.Files.{file_cmp}
use Rattle.pl_base.specs.declared.place.FileKey.{FileKey}
use Rattle.pl_requests.specs.declared.settings.FileText.{FileText}
use Rattle.pl_file_sets.specs.Sets.{FilesOf}
use Rattle.pl_file_sets.specs.Tries.{Tells, found, is_key, text_in, told_but}
use Rattle.pl_file_sets.specs.declared.trie.Trie.{Trie, Leaf}
use Rattle.pl_file_sets.proofs.Tries.{found-leaf}

abbrev Texts : Type 0
Texts = finite.FinMap file_cmp (List ℕ)

-- they are those that it tells
pub files_are : (trie : Trie) (files : FilesOf trie) (texts : Texts) →
    Tells 31 trie (finite.get texts) → files.0 ≡ texts
files_are trie files texts tells =
    finite.same_map files_total exact_files files.0 texts (λ key. sym (files.1 key) ∙ tells key)

pub none_told : (files : List FileText) → files ≡ [] →
    Tells 31 (Leaf files) (finite.get (finite.empty {X = List ℕ} {R = file_cmp}))
none_told files none key =
    found-leaf files 31 key ∙ ap (text_in key) none ∙ sym (get-empty file_cmp key)

pub same_told : (old new : Trie) (files : FilesOf old) → new ≡ old →
    Tells 31 new (finite.get files.0)
same_told old new files same key = ap (λ trie. found trie 31 key) same ∙ files.1 key

pub put_told : (old new : Trie) (files : FilesOf old) (name : FileKey) (text : List ℕ) →
    Tells 31 new (told_but name (Some text) (found old 31)) →
    Tells 31 new (finite.get (finite.insert files.0 name text))
put_told old new files name text tells key =
    tells key ∙ ap (cond (is_key key name) (Some text)) (files.1 key)
    ∙ sym (get-insert files_total files.0 name text key)

pub removed_told : (old new : Trie) (files : FilesOf old) (name : FileKey) →
    Tells 31 new (told_but name None (found old 31)) →
    Tells 31 new (finite.get (finite.remove files.0 name))
removed_told old new files name tells key =
    tells key ∙ ap (cond (is_key key name) None) (files.1 key)
    ∙ sym (get-remove files_total files.0 name key)
