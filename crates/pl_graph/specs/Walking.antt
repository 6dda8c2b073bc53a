-- What the functions inside say of the walk to a cycle.
use Rattle.std.specs.Prelude.{◌≡◌, ℕ, true, List, Contains}
use Rattle.std.specs.BTreeSet.{BTreeSet}
use Rattle.pl_graph.specs.Graph.{ClosedChain, EachOnce, Leads}
use Rattle.pl_graph.specs.Sets.{GoesOn, IsNext, joins}

-- each edge leads to a node from which another leads
abbrev pub AllGoOn : BTreeSet (ℕ × ℕ) → Type 0
AllGoOn edges = (a b : ℕ) → joins edges a b ≡ true → GoesOn edges b

-- the cycle to which the least next nodes lead from the first node
pub record IsCycleFrom (edges : BTreeSet (ℕ × ℕ)) (first : ℕ) (cycle : List ℕ) : Type 0 where
  pub once : EachOnce cycle
  pub closed : ClosedChain (IsNext edges) cycle
  pub node : ℕ
  pub leads : Leads (IsNext edges) first node
  pub on : Contains cycle node
