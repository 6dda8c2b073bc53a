-- Keys that stand twice.
use Rattle.std.specs.Prelude.{ℕ, List, [], ◌∷◌, ◌++◌, Option, Some, None, if◌then◌else◌}
use Rattle.std.specs.List.{list_any}
use Rattle.std.specs.Option.{option_map}
use Rattle.pl_base.specs.declared.place.Place.{Place}
use Rattle.pl_base.specs.declared.value.MarkedPair.{MarkedPair}
use Rattle.pl_base.specs.Texts.{is}

-- the first pair whose key stands before it, behind keys
abbrev pub double_in : List (List ℕ) → List MarkedPair → Option MarkedPair
double_in before [] = None
double_in before (pair ∷ pairs) =
    if list_any (is pair.key) before then Some pair
    else double_in (before ++ pair.key ∷ []) pairs

-- where its key comes from
abbrev pub first_double : List MarkedPair → Option Place
first_double pairs = option_map (λ pair. pair.key_origin.source) (double_in [] pairs)
