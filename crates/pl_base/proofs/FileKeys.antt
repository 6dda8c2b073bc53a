-- Keys of files are told apart by their order, and a map's entries by what is found at each key.
use Rattle.std.proofs.Common.{◌≡◌, ℕ, List, Option, [], ◌∷◌, cond, Some, refl, ap, sym, ◌∙◌}
use Rattle.std.specs.Cmp.{IsTotalOrder, eq_by_cmp_equiv}
use Rattle.std.proofs.lemmas.Cmp.{on_total, then_total, nat_list_cmp_total}
use Rattle.std.proofs.lemmas.Map.Lookups.{CmpEqualImpliesEq, exact_pairs, exact_bytes}
use Rattle.std.specs.Map.{lookup}
use Rattle.std.specs.BTreeMap.{is_at}
use Rattle.std.specs.FinMap.{get, insert, from_entries, find, get-from_entries, get-insert}
use Rattle.std.specs.FinMap.{same_map}
use Rattle.pl_base.specs.declared.place.FileKey.{FileKey}
use Rattle.pl_base.specs.Files.{text_cmp, file_cmp}

-- keys that compare alike are one
pub exact_files : CmpEqualImpliesEq file_cmp
exact_files a b h =
    ap (λ (texts : List ℕ × (List ℕ × List ℕ)). record {
      repo = texts.0;
      git_ref = texts.1.0;
      path =
          texts.1.1;
    })
    (exact_pairs text_cmp _ exact_bytes (exact_pairs text_cmp text_cmp exact_bytes exact_bytes)
    (a.repo, (a.git_ref, a.path)) (b.repo, (b.git_ref, b.path)) h)

pub files_total : IsTotalOrder file_cmp
files_total =
    then_total (on_total (λ key. key.repo) nat_list_cmp_total)
    (then_total (on_total (λ key. key.git_ref) nat_list_cmp_total)
    (on_total (λ key. key.path) nat_list_cmp_total))

-- what a list of entries has at a key
abbrev pub text_at : List (FileKey × List ℕ) → FileKey → Option (List ℕ)
text_at entries key = lookup (is_at (file_cmp key)) entries

find_text :
    (entries : List (FileKey × List ℕ)) (key : FileKey) →
    find file_cmp key entries ≡ text_at entries key
find_text [] key = refl
find_text (entry ∷ entries) key = ap (cond (is_at (file_cmp key) entry.0) (Some entry.1))
    (find_text entries key)

-- what the map that the entries make has at a key
pub get_text :
    (entries : List (FileKey × List ℕ)) (key : FileKey) →
    get (from_entries {R = file_cmp} entries) key ≡ text_at entries key
get_text entries key = get-from_entries files_total entries key ∙ find_text entries key

-- entries that differ at one key make maps that differ there
pub one_put :
    (old new : List (FileKey × List ℕ)) (key : FileKey) (text : List ℕ) →
    ((at : FileKey) → text_at new at ≡ cond (is_at (file_cmp key) at) (Some text) (text_at old at))
    →
    from_entries {R = file_cmp} new ≡ insert (from_entries old) key text
one_put old new key text differ = same_map files_total exact_files _ _ (λ at.
    get_text new at ∙ differ at ∙ ap (λ same. cond same (Some text) (text_at old at))
    ((eq_by_cmp_equiv files_total).symm key at)
    ∙ sym (get-insert files_total (from_entries old) key text at ∙
    ap (cond (is_at (file_cmp at) key) (Some text)) (get_text old at)))
