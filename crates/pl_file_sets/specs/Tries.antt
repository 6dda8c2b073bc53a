-- What a trie of files tells of keys.
use Rattle.std.specs.Prelude.{◌≡◌, ◌-◌, ℕ, Bool, cond, not, List, [], ◌∷◌, Option, Some, None}
use Rattle.std.specs.Ordering.{eq_by_cmp}
use Rattle.pl_base.specs.declared.place.FileKey.{FileKey}
use Rattle.pl_base.specs.Files.{file_cmp}
use Rattle.pl_requests.specs.declared.settings.FileText.{FileText}
use Rattle.pl_file_sets.specs.declared.trie.Trie.{Trie}
use Rattle.pl_file_sets.specs.declared.trie.Trie.TheOpen.{Trie-F, Leaf, Fork}
use Rattle.pl_file_sets.specs.declared.trie.Trie.TheFolds.{fold-Trie}
use Rattle.pl_file_sets.specs.Spread.{is_high, spread_of}

abbrev pub is_key : FileKey → FileKey → Bool
is_key = eq_by_cmp file_cmp

-- the text of the first file of a key
abbrev pub text_in : FileKey → List FileText → Option (List ℕ)
text_in key [] = None
text_in key (file ∷ files) = cond (is_key key file.key) (Some file.text) (text_in key files)

-- whether a key's number has a bit, or lacks it
abbrev pub is_on_side : Bool → ℕ → FileKey → Bool
is_on_side high bit key = cond high (is_high bit (spread_of key)) (not (is_high bit (spread_of key)))

-- a fork parts by a bit, and those below it by the next lower one
abbrev pub found_step : Trie-F (ℕ → FileKey → Option (List ℕ)) → ℕ → FileKey → Option (List ℕ)
found_step (Leaf files) bit key = text_in key files
found_step (Fork low high) bit key =
    cond (is_high bit (spread_of key)) (high (bit - 1) key) (low (bit - 1) key)

-- the text that a trie has at a key
abbrev pub found : Trie → ℕ → FileKey → Option (List ℕ)
found = fold-Trie (ℕ → FileKey → Option (List ℕ)) found_step

-- what is told, but for one key
abbrev pub told_but : FileKey → Option (List ℕ) → (FileKey → Option (List ℕ)) → FileKey →
    Option (List ℕ)
told_but name text told key = cond (is_key key name) text (told key)

-- the trie has at each key what is told of it
abbrev pub Tells : ℕ → Trie → (FileKey → Option (List ℕ)) → Type 0
Tells bit trie told = (key : FileKey) → found trie bit key ≡ told key
