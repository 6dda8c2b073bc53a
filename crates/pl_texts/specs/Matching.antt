-- Whether a text stands in another one. The texts are folded where case doesn't count.
use Rattle.std.specs.Prelude.{ℕ, Bool, List, [], ◌∷◌, nat_eq, ◌||◌}
use Rattle.std.specs.List.{starts_with, ends_with}

-- the sought text stands at the text's front
abbrev pub begins : List ℕ → List ℕ → Bool
begins text sought = starts_with nat_eq text sought

-- the sought text stands at the text's end
abbrev pub ends : List ℕ → List ℕ → Bool
ends text sought = ends_with nat_eq text sought

-- the sought text stands anywhere in the text
abbrev pub holds : List ℕ → List ℕ → Bool
holds [] sought = begins [] sought
holds (byte ∷ text) sought = begins (byte ∷ text) sought || holds text sought
