-- All for whom one waits, directly or through others (Microsoft Learn, "Expressions", Job status
-- check functions: a condition looks at the whole graph of dependencies).
use Rattle.std.specs.Prelude.{ℕ, zero, suc, ◌==◌, Bool, ◌&&◌, ◌||◌, List, length, filter}
use Rattle.std.specs.List.{list_any, range_with_len}
use Rattle.pl_graph.specs.Waits.{edges_by}

-- one edge leads from a to b
abbrev pub leads : List (ℕ × ℕ) → ℕ → ℕ → Bool
leads edges a b = list_any (λ edge. (edge.0 == a) && (edge.1 == b)) edges

-- edges lead from a to b, perhaps through others, of which each is below a number
abbrev pub leads_through : List (ℕ × ℕ) → ℕ → ℕ → ℕ → Bool
leads_through edges zero a b = leads edges a b
leads_through edges (suc k) a b = leads_through edges k a b
    || (leads_through edges k a k && leads_through edges k k b)

-- Those for whom the one at a place waits, in order, where each waits for some of the list.
unfoldable pub transitive : List (List ℕ) → ℕ → List ℕ
transitive waits at = filter (leads_through (edges_by 0 waits) (length waits) at)
    (range_with_len 0 (length waits))

-- the places of those for whom one waits directly: each once, in the order of the plan
abbrev pub direct : List ℕ → ℕ → List ℕ
direct depends count =
    filter (λ at. list_any (λ place. place == at) depends) (range_with_len 0 count)
