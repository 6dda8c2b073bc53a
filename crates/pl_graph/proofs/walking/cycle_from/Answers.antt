use Rattle.pl_graph.proofs.Common.{EachOnce, IsNext, [], arith, inr, length_push, ◌++◌, ◌∷◌}
use Rattle.pl_graph.proofs.Lists.{once_most, once_push, one_more, push, pushed}
use Rattle.pl_graph.proofs.Walks.{cut_at}
use Rattle.pl_graph.proofs.walking.cycle_from.Goals as goal
use Rattle.pl_graph.proofs.walking.cycle_from.Goals.{In_ok-push}

once : (c : In_ok-push) → EachOnce (c.loop-nodes.nodes.items ++ c.loop-nodes.node ∷ [])
once c =
    let l = c.loop-nodes in
    once_push l.nodes.items l.node l.invariant.once (λ had.
    let seen = (l.invariant.seen_is l.node).1 had in
    let added = c.in_ok-insert.ensures.added in let new = c.if-branch.true in grind arith)

pub loop-nodes-smaller : goal.loop-nodes-smaller
loop-nodes-smaller c =
    let o = (goal.at.loop-nodes-smaller c).In_ok-push in
    let most = once_most 4294967296 _ (once o) c.loop-nodes.invariant.below in
    let more = length_push c.loop-nodes.nodes.items c.loop-nodes.node in
    rw c.in_ok-push.ensures.items (omega arith)

pub loop-nodes-preserved : goal.loop-nodes-preserved
loop-nodes-preserved c =
    let l = c.loop-nodes in
    let o = (goal.at.loop-nodes-preserved c).In_ok-push in
    rw c.in_ok-push.ensures.items (record {
      goes = c.requires.goes_on l.node c.next_of-node.result c.next_of-node.ensures.0;
      leads = inr (one_more (IsNext c.args.edges.now) _ l.node _ l.invariant.leads
          c.next_of-node.ensures);
      along = push (IsNext c.args.edges.now) l.nodes.items l.node c.next_of-node.result
          l.invariant.along c.next_of-node.ensures;
      below = λ x.
          let was = l.invariant.below x in let fits = c.next_of-node.type_inv in
          let push = pushed (l.nodes.items ++ l.node ∷ []) c.next_of-node.result x in grind arith;
      once = once o;
      seen_is = λ x.
          let was = l.invariant.seen_is x in let push = pushed l.nodes.items l.node x in
          let after = c.in_ok-insert.ensures.updates.0 x in grind arith;
    })

pub returns : goal.returns
returns c =
    let is = rw c.deref.ensures.value at c.place_of-start.ensures in
    let l = c.loop-nodes in
    rw c.in_ok-split_off.ensures.tail (cut_at _ _ l.node c.place_of-start.result l.nodes.items
    l.invariant.leads l.invariant.along l.invariant.once is.within is.is)
