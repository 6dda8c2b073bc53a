-- A text cut into pieces, and pieces joined.
use Rattle.std.specs.Prelude.{ℕ, Bool, List, [], ◌∷◌, ◌++◌, map, flat_map, ◌==◌, if◌then◌else◌}
use Rattle.std.specs.Prelude.{encode_utf8_all}
use Rattle.std.specs.List.{list_any}
use Rattle.std.specs.Str.{chars}

-- the character in front of the first piece
abbrev pub onto : ℕ → List (List ℕ) → List (List ℕ)
onto character [] = (character ∷ []) ∷ []
onto character (piece ∷ pieces) = (character ∷ piece) ∷ pieces

-- the pieces between the characters that separate, empty ones too
abbrev pub cut : (ℕ → Bool) → List ℕ → List (List ℕ)
cut separates [] = [] ∷ []
cut separates (character ∷ text) =
    if separates character then [] ∷ cut separates text else onto character (cut separates text)

-- whether a character is one of the text's
abbrev pub is_of : List ℕ → ℕ → Bool
is_of text character = list_any (λ other. other == character) (chars text)

-- the text's pieces between the characters of the second one
abbrev pub pieces : List ℕ → List ℕ → List (List ℕ)
pieces text separators = map encode_utf8_all (cut (is_of separators) (chars text))

-- the texts in order, the separator between each two
abbrev pub joined : List ℕ → List (List ℕ) → List ℕ
joined separator [] = []
joined separator (text ∷ texts) = text ++ flat_map (λ next. separator ++ next) texts
