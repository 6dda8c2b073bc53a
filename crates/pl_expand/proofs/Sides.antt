-- What a loop keeps of a list.
use Rattle.std.proofs.Common.{◌≡◌, Option, List, [], ◌∷◌, ◌++◌}
use Rattle.std.specs.List.{cons_option, filter_map}
use Rattle.std.proofs.lemmas.List.Elements.{filter_map-append}

pub filter_map_more :
    {X Y : Type 0} (f : X → Option Y) (xs : List X) (x : X) →
    filter_map f (xs ++ x ∷ []) ≡ filter_map f xs ++ cons_option (f x) []
filter_map_more f xs x = filter_map-append f xs (x ∷ [])
