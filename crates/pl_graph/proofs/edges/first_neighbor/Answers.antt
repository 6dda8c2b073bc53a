use Rattle.pl_graph.proofs.Common.{arith, edge_cmp, inr, joins, refl, true, ℕ, ◌≡◌}
use Rattle.pl_graph.proofs.Members.{edge_le}
use Rattle.std.specs.BTreeMap.Range.{IsInRange}
use Rattle.std.specs.declared.ops.Bound.TheVariants.{Included, Unbounded}
use Rattle.pl_graph.proofs.edges.first_neighbor.Goals as goal

from : (a b : ℕ) → IsInRange edge_cmp (Included (a, 0)) Unbounded (a, b)
from a b = ((edge_le (a, 0) (a, b)).1 (inr (refl, omega arith)), tt)

pub returns-in-Some : goal.returns-in-Some
returns-in-Some c =
    let r = c.range.ensures.in_range tt in
    let is = c.in-Some.ensures.steps in let a = c.args.node in
    let had = (rw is at r.1).1 in (
      rw (← c.if-edge-node.true) had,
      λ b h.
          let low = (edge_le c.in-Some.edge.now (a, b)).0 (rw is at (r.2 (a, b) (from a b) h)) in
          grind arith,
    )

pub returns-in_default : goal.returns-in_default
returns-in_default c = λ b.
    let r = c.range.ensures.in_range tt in
    let is = c.in-Some.ensures.steps in let a = c.args.node in
    let low = λ (h : joins c.args.edges.now a b ≡ true).
    (edge_le c.in-Some.edge.now (a, b)).0 (rw is at (r.2 (a, b) (from a b) h)) in
    let on = (edge_le (a, 0) c.in-Some.edge.now).0 (rw is at r.1).0.0 in grind arith

pub returns-in_default-2 : goal.returns-in_default-2
returns-in_default-2 c = λ b.
    (c.range.ensures.in_range tt).5 (rw c.in_default.is at c.next.ensures.steps).0
    (c.args.node, b) (from c.args.node b)
