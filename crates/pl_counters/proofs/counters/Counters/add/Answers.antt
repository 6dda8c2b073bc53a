use Rattle.std.proofs.Common.{◌++◌, ◌∷◌, [], false, ap, ◌∙◌}
use Rattle.pl_counters.specs.Counting.{left_of}
use Rattle.pl_counters.proofs.Lowered.{kept_more}
use Rattle.pl_counters.proofs.counters.Counters.add.Goals as goal

pub invariant_of-self-2 : goal.invariant_of-self-2
invariant_of-self-2 c =
    let was = c.self.inside in
    let seen = c.as_slice.ensures.value ∙ c.reserve-3.ensures.items in
    kept_more was.lists.items c.push_reserved.new.self.items was.left.items
    c.push_reserved-2.new.self.items was.ended.items c.push_reserved-3.new.self.items
    c.args.waits c.left_of-left.result c.self.invariant
    (c.push_reserved.ensures.items ∙ ap (λ l. l ++ c.args.waits ∷ []) c.reserve.ensures.items)
    (c.push_reserved-2.ensures.items
    ∙ ap (λ l. l ++ c.left_of-left.result ∷ []) c.reserve-2.ensures.items)
    (c.push_reserved-3.ensures.items ∙ ap (λ l. l ++ false ∷ []) c.reserve-3.ensures.items)
    (c.left_of-left.ensures ∙ λ i. left_of (seen i) (c.as_slice-2.ensures i))
