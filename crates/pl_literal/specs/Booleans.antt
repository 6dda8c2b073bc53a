-- The texts that are Booleans (YAML 1.1's type repository, "Boolean Language-Independent Type", in
-- any mixture of cases).
use Rattle.std.specs.Prelude.{ℕ, Bool, true, false, List, [], ◌∷◌, Option, Some, None, codes}
use Rattle.std.specs.Prelude.{nat_eq, if◌then◌else◌}
use Rattle.std.specs.List.{list_any}
use Rattle.std.specs.Cmp.Lexicographic.{pointwise}
use Rattle.pl_base.specs.Folding.{folded}

abbrev pub words_of_true : List (List ℕ)
words_of_true = codes "true" ∷ codes "y" ∷ codes "yes" ∷ codes "on" ∷ []

abbrev pub words_of_false : List (List ℕ)
words_of_false = codes "false" ∷ codes "n" ∷ codes "no" ∷ codes "off" ∷ []

-- whether a text is that word, the case of ASCII's letters aside
abbrev pub spells : List ℕ → List ℕ → Bool
spells text word = pointwise nat_eq (folded text) (folded word)

-- the Boolean that a text is, if it is one
abbrev pub boolean_in : List ℕ → Option Bool
boolean_in text =
    if list_any (spells text) words_of_true then Some true
    else if list_any (spells text) words_of_false then Some false
    else None
