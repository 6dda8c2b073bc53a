-- What the functions inside say of sets of nodes and of edges.
use Rattle.std.specs.Prelude.{◌≡◌, ℕ, ◌+◌, Bool, true, false, List, Option, Some, None, map}
use Rattle.std.specs.BTreeSet.{BTreeSet, Updates, btree_set_len, contains}
use Rattle.std.specs.Ordering.{nat_cmp, ordering_then}
use Rattle.std.specs.declared.cmp.Ordering.{Ordering}
use Rattle.pl_graph.specs.Graph.{IsLeast}

-- whether the set has the node
abbrev pub has : BTreeSet ℕ → ℕ → Bool
has set x = contains nat_cmp set x

-- edges by their first node, and then by their second
abbrev pub edge_cmp : ℕ × ℕ → ℕ × ℕ → Ordering
edge_cmp x y = ordering_then (nat_cmp x.0 y.0) (nat_cmp x.1 y.1)

-- whether the set has the edge from a to b
abbrev pub joins : BTreeSet (ℕ × ℕ) → ℕ → ℕ → Bool
joins edges a b = contains edge_cmp edges (a, b)

-- no edge leads from a
abbrev pub HasNone : BTreeSet (ℕ × ℕ) → ℕ → Type 0
HasNone edges a = (b : ℕ) → joins edges a b ≡ false

-- an edge leads from a
abbrev pub GoesOn : BTreeSet (ℕ × ℕ) → ℕ → Type 0
GoesOn edges a = (b : ℕ) × (joins edges a b ≡ true)

-- b is the least node to which an edge leads from a
abbrev pub IsNext : BTreeSet (ℕ × ℕ) → ℕ → ℕ → Type 0
IsNext edges a b = IsLeast (λ d. joins edges a d ≡ true) b

-- the least node to which an edge leads from a, if there is one
abbrev pub IsFirst : BTreeSet (ℕ × ℕ) → ℕ → Option ℕ → Type 0
IsFirst edges a (Some b) = IsNext edges a b
IsFirst edges a None = HasNone edges a

-- an edge from a is taken out, if there is one
abbrev pub Takes : ℕ → BTreeSet (ℕ × ℕ) → Option ℕ → BTreeSet (ℕ × ℕ) → Type 0
Takes a edges (Some b) rest = (joins edges a b ≡ true) × Updates edge_cmp edges rest (a, b) false
    × (btree_set_len rest + 1 ≡ btree_set_len edges)
Takes a edges None rest = HasNone edges a × (rest ≡ edges)

-- edges turned round
abbrev pub turned_of : List (ℕ × ℕ) → List (ℕ × ℕ)
turned_of edges = map (λ edge. (edge.1, edge.0)) edges
