-- Where variables stand, by their names in upper case.
use Rattle.std.specs.Prelude.{ℕ, Bool, List, Option, Some, None}
use Rattle.std.specs.List.{position_from}
use Rattle.std.specs.Str.{bytes_eq}
use Rattle.pl_base.specs.Folding.{folded}
use Rattle.pl_frame.specs.declared.frame.Variable.{Variable}
use Rattle.pl_frame.specs.Variables.{placed}

-- whether a variable has that name, which is in upper case
abbrev pub has_name : List ℕ → Variable → Bool
has_name upper variable = bytes_eq upper (folded variable.name)

-- where the first variable of that name stands
abbrev pub place_of : List ℕ → List Variable → Option ℕ
place_of upper variables = position_from (has_name upper) 0 variables

-- a later variable, where there is one
abbrev pub placed_if : List Variable → Option Variable → List Variable
placed_if variables None = variables
placed_if variables (Some later) = placed variables later
