-- Nodes that wait for others, by their places from 0, and which of them have ended.
use Rattle.std.specs.Prelude.{◌≡◌, ℕ, ◌==◌, Bool, false, not, List, length, map, slice_index_or}
use Rattle.std.specs.List.{count_by}

-- for which others each node waits, doubles among them, and whether it has ended
pub record Waits : Type 0 where
  pub lists : List (List ℕ)
  pub ended : List Bool

-- what isn't there hasn't ended
abbrev pub has_ended : List Bool → ℕ → Bool
has_ended ended node = slice_index_or ended node false

-- how many of those for which a node waits haven't ended
abbrev pub left_of : List Bool → List ℕ → ℕ
left_of ended waits = count_by (λ node. not (has_ended ended node)) waits

-- how often a node stands in a list
abbrev pub times : ℕ → List ℕ → ℕ
times node waits = count_by (λ other. other == node) waits

-- each node has a counter of those that are left
pub record AreCounted (lists : List (List ℕ)) (left : List ℕ) (ended : List Bool) : Type 0 where
  pub as_many : length ended ≡ length lists
  pub counted : left ≡ map (left_of ended) lists
