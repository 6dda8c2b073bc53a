-- The words of an expression in a key.
use Rattle.std.specs.Prelude.{ℕ, Bool, false, not, List, [], ◌∷◌, drop, take_while, ◌==◌}
use Rattle.std.specs.Prelude.{◌&&◌, ◌||◌}
use Rattle.std.specs.List.{prefix_len, list_all}
use Rattle.std.specs.Char.{is_ascii_alphabetic, is_ascii_alphanumeric}

-- blanks are those of expressions: the space, the tab and the line feed
abbrev pub is_blank : ℕ → Bool
is_blank byte = byte == 32 || byte == 9 || byte == 10

abbrev pub is_in_word : ℕ → Bool
is_in_word byte = not (is_blank byte)

-- the text without the blanks that it begins with
abbrev pub unblanked : List ℕ → List ℕ
unblanked text = drop (prefix_len is_blank text) text

-- the first word, up to a blank or the end
abbrev pub first_word : List ℕ → List ℕ
first_word text = take_while is_in_word (unblanked text)

-- what stands behind the first word, without the blanks between
abbrev pub behind_word : List ℕ → List ℕ
behind_word text = unblanked (drop (prefix_len is_in_word (unblanked text)) (unblanked text))

-- a letter or `_` begins a name
abbrev pub begins_name : ℕ → Bool
begins_name byte = is_ascii_alphabetic byte || (byte == 95)

-- and digits may follow
abbrev pub goes_on_name : ℕ → Bool
goes_on_name byte = is_ascii_alphanumeric byte || (byte == 95)

-- the names of loops are those of expressions
abbrev pub is_name : List ℕ → Bool
is_name [] = false
is_name (byte ∷ bytes) = begins_name byte && list_all goes_on_name bytes
