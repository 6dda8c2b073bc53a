-- What the functions inside say while they place node after node.
use Rattle.std.specs.Prelude.{◌≡◌, ℕ, ◌<◌, ◌⊎◌, true, List, [], Contains}
use Rattle.std.specs.BTreeSet.{BTreeSet}
use Rattle.pl_graph.specs.Graph.{DependsOn, InTurn, IsAfter, IsLeast}
use Rattle.pl_graph.specs.Sets.{GoesOn, joins}

-- x is not placed, and all that it depends on is
pub record IsReady (n : ℕ) (edges : List (ℕ × ℕ)) (placed : List ℕ) (x : ℕ) : Type 0 where
  pub node : x < n
  pub unplaced : Contains placed x → ⊥
  pub after : IsAfter edges placed x

-- x is the least node that is ready
abbrev pub IsLeastReady : ℕ → List (ℕ × ℕ) → List ℕ → ℕ → Type 0
IsLeastReady n edges placed = IsLeast (IsReady n edges placed)

-- each node was the least that was ready in its turn
abbrev pub PlacesLeast : ℕ → List (ℕ × ℕ) → List ℕ → Type 0
PlacesLeast n edges placed = InTurn (IsLeastReady n edges) [] placed

-- nodes were placed while any was ready. What a node misses are those nodes on which it depends
-- that aren't placed. Only nodes are placed, and each node is placed or misses one
pub record IsPlacement (n : ℕ) (edges : List (ℕ × ℕ)) (placed : List ℕ)
    (missing : BTreeSet (ℕ × ℕ)) : Type 0 where
  pub least : PlacesLeast n edges placed
  pub missed : (x b : ℕ) → joins missing x b ≡ true →
      DependsOn edges x b × (Contains placed b → ⊥)
  pub kept : (x b : ℕ) → DependsOn edges x b → (joins missing x b ≡ true) ⊎ Contains placed b
  pub each : (x : ℕ) → (Contains placed x → x < n) ×
      (x < n → Contains placed x ⊎ GoesOn missing x)
