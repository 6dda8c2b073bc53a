-- Variables, of which a later one stands in the place of an earlier one of its name (Microsoft
-- Learn, "Define variables": of two of one name the later one wins).
use Rattle.std.specs.Prelude.{ℕ, Bool, List, [], ◌∷◌, Option, if◌then◌else◌}
use Rattle.std.specs.List.{position_from}
use Rattle.std.specs.Str.{bytes_eq}
use Rattle.pl_base.specs.Folding.{folded}
use Rattle.pl_eval.specs.Known.{same_name}
use Rattle.pl_cond.specs.declared.variables.Variable.{Variable}

-- a later one stands in the place of an earlier one of its name, and else behind all
abbrev pub placed : List Variable → Variable → List Variable
placed [] later = later ∷ []
placed (first ∷ rest) later =
    if same_name later.name first.name then later ∷ rest else first ∷ placed rest later

-- whether a variable has that name, which is in upper case
abbrev pub has_name : List ℕ → Variable → Bool
has_name upper variable = bytes_eq upper (folded variable.name)

-- where the first variable of that name stands
abbrev pub place_of : List ℕ → List Variable → Option ℕ
place_of upper variables = position_from (has_name upper) 0 variables
