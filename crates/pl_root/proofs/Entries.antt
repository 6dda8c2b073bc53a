-- A map's entries by what is found at each key.
use Rattle.std.proofs.Common.{◌≡◌, List, Option, [], ◌∷◌, cond, Some, refl, ap, sym, ◌∙◌}
use Rattle.std.specs.BTreeMap.{is_at}
use Rattle.std.specs.Cmp.{eq_by_cmp_equiv}
use Rattle.std.specs.FinMap.{get, insert, from_entries, find, get-from_entries, get-insert}
use Rattle.std.specs.FinMap.{same_map}
use Rattle.std.specs.Map.{lookup}
use Rattle.pl_base.proofs.FileKeys.{exact_files, files_total}
use Rattle.pl_base.specs.Files.{file_cmp}
use Rattle.pl_base.specs.declared.place.FileKey.{FileKey}
use Rattle.pl_calls.specs.declared.files.Parsed.{Parsed}

abbrev Entries : Type 0
Entries = List (FileKey × Parsed)

abbrev found_at : Entries → FileKey → Option Parsed
found_at entries key = lookup (is_at (file_cmp key)) entries

find_entry : (entries : Entries) (key : FileKey) → find file_cmp key entries ≡ found_at entries key
find_entry [] key = refl
find_entry (entry ∷ entries) key =
    ap (cond (is_at (file_cmp key) entry.0) (Some entry.1)) (find_entry entries key)

-- what the map that the entries make has at a key
pub get_entry :
    (entries : Entries) (key : FileKey) →
    get (from_entries {R = file_cmp} entries) key ≡ found_at entries key
get_entry entries key = get-from_entries files_total entries key ∙ find_entry entries key

-- entries that differ at one key make maps that differ there
pub one_put :
    (old new : Entries) (key : FileKey) (file : Parsed) →
    ((at : FileKey) →
    found_at new at ≡ cond (is_at (file_cmp key) at) (Some file) (found_at old at)) →
    from_entries {R = file_cmp} new ≡ insert (from_entries old) key file
one_put old new key file differ = same_map files_total exact_files _ _ (λ at.
    get_entry new at ∙ differ at
    ∙ ap (λ same. cond same (Some file) (found_at old at))
    ((eq_by_cmp_equiv files_total).symm key at)
    ∙ sym (get-insert files_total (from_entries old) key file at
    ∙ ap (cond (is_at (file_cmp at) key) (Some file)) (get_entry old at)))
