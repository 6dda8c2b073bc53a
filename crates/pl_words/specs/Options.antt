-- Options as words spell them (POSIX, Utility Conventions, 12.1, with the long names of GNU's
-- conventions): a name and its value, in one word or in two.
use Rattle.std.specs.Prelude.{ℕ, Bool, true, not, ◌==◌, ◌&&◌, nat_lt, nat_eq, List, [], ◌∷◌, length}
use Rattle.std.specs.Prelude.{codes, Option, Some, None, if◌then◌else◌, find}
use Rattle.std.specs.Option.{option_map, option_map_or}
use Rattle.std.specs.List.{after_first, before_first, list_any, position_or_len, starts_with}
use Rattle.std.specs.Cmp.Lexicographic.{pointwise}

-- an option as it is given: its name, with the dashes in front, and its value
pub record Given : Type 0 where
  pub name : List ℕ
  pub value : List ℕ

abbrev pub is_word : List ℕ → List ℕ → Bool
is_word text word = pointwise nat_eq text word

abbrev pub is_equals : ℕ → Bool
is_equals byte = byte == 61

abbrev pub has_equals : List ℕ → Bool
has_equals word = nat_lt (position_or_len is_equals word) (length word)

-- `NAME=VALUE` in one word, cut at its first `=`
abbrev pub joined : List ℕ → Given
joined word = record {
  name = before_first is_equals word;
  value = after_first is_equals word;
}

abbrev pub joined_in : List ℕ → Option Given
joined_in word = if has_equals word then Some (joined word) else None

-- a value in a word of its own doesn't begin with `-`
abbrev pub begins_as_an_option : List ℕ → Bool
begins_as_an_option value = starts_with nat_eq value (codes "-")

abbrev pub and_more : Given → Option (List Given) → Option (List Given)
and_more one more = option_map (λ options. one ∷ options) more

-- the options that words are, if all of them are options
abbrev pub options_of : List (List ℕ) → Option (List Given)
options_of [] = Some []
options_of (word ∷ []) = if has_equals word then Some (joined word ∷ []) else None
options_of (word ∷ value ∷ words) =
    if has_equals word then and_more (joined word) (options_of (value ∷ words))
    else if begins_as_an_option value then None
    else and_more (record { name = word; value = value }) (options_of words)

-- ---- options by their names

abbrev pub is_named : List ℕ → Given → Bool
is_named name one = is_word one.name name

abbrev pub is_given : List ℕ → List Given → Bool
is_given name options = list_any (is_named name) options

-- the value of an option, if it is given
abbrev pub value_of : List ℕ → List Given → Option (List ℕ)
value_of name options = option_map (λ one. one.value) (find (is_named name) options)

-- all of them have one of these names, and none of these is given twice
abbrev pub are_once : List (List ℕ) → List Given → Bool
are_once names [] = true
are_once names (one ∷ more) =
    list_any (λ name. is_word name one.name) names
    && (not (is_given one.name more) && are_once names more)
