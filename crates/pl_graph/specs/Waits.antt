-- The edges of a list of those who wait, each for places of that list.
use Rattle.std.specs.Prelude.{ℕ, ◌+◌, List, [], ◌∷◌, ◌++◌, map}

-- from the one at a place to each for whom it waits
abbrev pub edges_of_one : ℕ → List ℕ → List (ℕ × ℕ)
edges_of_one at depends = map (λ other. (at, other)) depends

-- who waits, and for whom; the first one stands at that place
abbrev pub edges_by : ℕ → List (List ℕ) → List (ℕ × ℕ)
edges_by at [] = []
edges_by at (depends ∷ waits) = edges_of_one at depends ++ edges_by (at + 1) waits
