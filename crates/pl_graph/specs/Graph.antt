-- Nodes are the numbers below n. An edge (a, b) says that the node a depends on the node b. An edge
-- may come twice.
use Rattle.std.specs.Prelude.{◌≡◌, ◌≢◌, ℕ, zero, suc, ◌<◌, ◌≤◌, ◌↔◌, ◌⊎◌, List, []}
use Rattle.std.specs.Prelude.{◌∷◌, ◌++◌, All, Contains, slice_index}
use Rattle.std.specs.List.{AllPairs}
use Rattle.std.specs.Ordering.{nat_cmp}
use Rattle.std.specs.Cmp.Lexicographic.{slice_cmp}
use Rattle.std.specs.List.Sorted.{IsStrictlyIncreasing}
use Rattle.std.specs.declared.cmp.Ordering.TheVariants.{Greater}

-- each edge leads from a node to a node
abbrev pub AreEdges : ℕ → List (ℕ × ℕ) → Type 0
AreEdges n edges = All (λ edge. (edge.0 < n) × (edge.1 < n)) edges

-- the node a depends on the node b
abbrev pub DependsOn : List (ℕ × ℕ) → ℕ → ℕ → Type 0
DependsOn edges a b = Contains edges (a, b)

-- a walk of m + 1 steps, each from a node to one that it is related to, leads from a to b
abbrev pub Walk : (ℕ → ℕ → Type 0) → ℕ → ℕ → ℕ → Type 0
Walk R a b zero = R a b
Walk R a b (suc m) = (c : ℕ) × Walk R a c m × R c b

-- b is a transitive dependency of a
abbrev pub DependsTransitively : List (ℕ × ℕ) → ℕ → ℕ → Type 0
DependsTransitively edges a b = (m : ℕ) × Walk (DependsOn edges) a b m

-- exactly the transitive dependencies of the node, ascending
pub record AreAncestors (edges : List (ℕ × ℕ)) (node : ℕ) (nodes : List ℕ) : Type 0 where
  pub ascending : IsStrictlyIncreasing nodes
  pub members : (b : ℕ) → Contains nodes b ↔ DependsTransitively edges node b

-- no node comes twice
abbrev pub EachOnce : List ℕ → Type 0
EachOnce nodes = AllPairs (λ x y. x ≢ y) nodes

-- a fact about each node and those before it
abbrev pub InTurn : (List ℕ → ℕ → Type 0) → List ℕ → List ℕ → Type 0
InTurn P before [] = Unit {0}
InTurn P before (x ∷ rest) = P before x × InTurn P (before ++ x ∷ []) rest

-- x comes after all that it depends on
abbrev pub IsAfter : List (ℕ × ℕ) → List ℕ → ℕ → Type 0
IsAfter edges before x = (b : ℕ) → DependsOn edges x b → Contains before b

-- each node comes after all that it depends on
abbrev pub AreInOrder : List (ℕ × ℕ) → List ℕ → Type 0
AreInOrder edges nodes = InTurn (IsAfter edges) [] nodes

-- each node below n comes once, after all that it depends on
pub record IsTopological (n : ℕ) (edges : List (ℕ × ℕ)) (nodes : List ℕ) : Type 0 where
  pub members : (x : ℕ) → Contains nodes x ↔ (x < n)
  pub once : EachOnce nodes
  pub after : AreInOrder edges nodes

-- the least of all topological orders: none of them has a smaller node at the first place where the
-- two differ
pub record IsLeastTopological (n : ℕ) (edges : List (ℕ × ℕ)) (nodes : List ℕ) : Type 0 where
  pub topological : IsTopological n edges nodes
  pub least : (others : List ℕ) → IsTopological n edges others →
      slice_cmp nat_cmp nodes others ≢ Greater

-- each node is related to the next one
abbrev pub Chain : (ℕ → ℕ → Type 0) → List ℕ → Type 0
Chain R [] = Unit {0}
Chain R (a ∷ []) = Unit {0}
Chain R (a ∷ b ∷ rest) = R a b × Chain R (b ∷ rest)

-- and the last one to the first
abbrev pub ClosedChain : (ℕ → ℕ → Type 0) → List ℕ → Type 0
ClosedChain R [] = ⊥
ClosedChain R (first ∷ rest) = Chain R (first ∷ rest ++ first ∷ [])

-- each node depends on the next one, and the last one on the first
pub record IsCycle (edges : List (ℕ × ℕ)) (nodes : List ℕ) : Type 0 where
  pub once : EachOnce nodes
  pub closed : ClosedChain (DependsOn edges) nodes

-- x remains when nodes without remaining dependencies are taken away while there are any: however
-- nodes are taken away, each after all that it depends on, x isn't among them
abbrev pub Remains : ℕ → List (ℕ × ℕ) → ℕ → Type 0
Remains n edges x = (x < n) ×
    ((taken : List ℕ) → AreInOrder edges taken → Contains taken x → ⊥)

-- the least number of which a fact holds
abbrev pub IsLeast : (ℕ → Type 0) → ℕ → Type 0
IsLeast P x = P x × ((y : ℕ) → P y → x ≤ y)

-- b is the least dependency of a that remains
abbrev pub IsLeastDependency : ℕ → List (ℕ × ℕ) → ℕ → ℕ → Type 0
IsLeastDependency n edges a b = IsLeast (λ d. DependsOn edges a d × Remains n edges d) b

-- b is a, or a walk leads from a to b
abbrev pub Leads : (ℕ → ℕ → Type 0) → ℕ → ℕ → Type 0
Leads R a b = (a ≡ b) ⊎ ((m : ℕ) × Walk R a b m)

-- the cycle along least remaining dependencies to which they lead from the least remaining node,
-- begun with its least node
pub record IsCanonicalCycle (n : ℕ) (edges : List (ℕ × ℕ)) (cycle : List ℕ) : Type 0 where
  pub once : EachOnce cycle
  pub closed : ClosedChain (IsLeastDependency n edges) cycle
  pub least : All (λ x. slice_index cycle 0 ≤ x) cycle
  pub start : ℕ
  pub from : IsLeast (Remains n edges) start
  pub node : ℕ
  pub leads : Leads (IsLeastDependency n edges) start node
  pub on : Contains cycle node
