use Rattle.std.proofs.Common.{◌∙◌}
use Rattle.pl_sqlkeeper.proofs.Arranging.{are_told}
use Rattle.pl_sqlkeeper.proofs.rows.arranged.Goals as goal

pub returns-then-are_apart-clause-told : goal.returns-then-are_apart-clause-told
returns-then-are_apart-clause-told c = λ db shown.
    c.from_vec.ensures ∙ are_told db c.args.stored.now c.in_ok-kept.kept.items
    c.sorted-rows.result.items c.in_ok-kept.ensures c.sorted-rows.ensures.rows
    c.sorted-rows.ensures.order
    (rw c.as_slice.ensures.value at (c.are_apart.ensures c.if-are_apart.true)) shown
