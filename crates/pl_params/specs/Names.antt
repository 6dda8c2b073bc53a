-- Names of parameters.
use Rattle.std.specs.Prelude.{◌≡◌, ℕ, Bool, List, String}
use Rattle.std.specs.List.{list_any, position_from}
use Rattle.std.specs.Str.{bytes_eq}
use Rattle.std.specs.HashMap.{HashMap, get_by_text}
use Rattle.pl_base.specs.Folding.{folded}
use Rattle.pl_literal.specs.Booleans.{spells}
use Rattle.pl_params.specs.declared.param.Param.{Param}

-- whether one of the declared parameters has that name, the case of ASCII's letters aside
abbrev pub is_declared : List Param → List ℕ → Bool
is_declared declared name = list_any (λ param. spells name param.name) declared

-- whether a map tells where each name in upper case first stands
abbrev pub Indexes : {X Y S : Type 0} → (X → List ℕ) → List X → HashMap (String Y) ℕ S → Type 0
Indexes name items places = (upper : List ℕ) → get_by_text places upper ≡
    position_from (λ item. bytes_eq upper (folded (name item))) 0 items
