-- Places and refusals as lines of text.
use Rattle.std.specs.Prelude.{ℕ, List, [], ◌∷◌, ◌++◌, flat_map, codes, decimal}
use Rattle.pl_base.specs.declared.expanded.Refusal.{Refusal}
use Rattle.pl_base.specs.declared.place.FileKey.{FileKey}
use Rattle.pl_base.specs.declared.place.Place.{Place}

-- a word behind a space
abbrev pub and_word : List ℕ → List ℕ
and_word word = 32 ∷ word

-- `REPO REF PATH`
abbrev pub key_text : FileKey → List ℕ
key_text key = key.repo ++ and_word key.git_ref ++ and_word key.path

-- `REPO REF PATH:LINE:COL`
abbrev pub place_text : Place → List ℕ
place_text place = key_text place.file ++ 58 ∷ decimal place.line ++ 58 ∷ decimal place.col

-- `refused CODE REPO REF PATH:LINE:COL`, and each detail behind a space
abbrev pub refusal_line : Refusal → List ℕ
refusal_line refusal =
    codes "refused"
    ++ and_word refusal.code
    ++ and_word (place_text refusal.place)
    ++ flat_map and_word refusal.detail
    ++ 10 ∷ []
