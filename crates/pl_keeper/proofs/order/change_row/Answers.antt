use Rattle.std.proofs.Common.{List, sym, subst}
use Rattle.pl_base.specs.declared.row.Row.{Row}
use Rattle.pl_keeper.specs.Keeping.{IsInOrder}
use Rattle.pl_keeper.proofs.Changing.{from_le_to, none_made, one_made, order_kept}
use Rattle.pl_keeper.proofs.order.change_row.Goals as goal

pub take_out-requires-clause-ordered : goal.take_out-requires-clause-ordered
take_out-requires-clause-ordered c =
    let from = rw c.as_slice.ensures.value at c.count_before-from.ensures in
    let to = rw c.as_slice-2.ensures.value at c.count_to-to.ensures in
    from_le_to c.args.rows.now.items c.args.change c.requires.order c.count_before-from.result
    c.count_to-to.result from.within to.within from.front to.back

pub returns-in-Some-clause-rows : goal.returns-in-Some-clause-rows
returns-in-Some-clause-rows c =
    let from = rw c.as_slice.ensures.value at c.count_before-from.ensures in
    let to = rw c.as_slice-2.ensures.value at c.count_to-to.ensures in
    one_made c.args.rows.now.items c.args.change c.count_before-from.result c.count_to-to.result
    c.take_out.new.rows.items c.take_out.ensures.rows
    from.front to.back c.put_row.new.rows.items c.in-Some.body from.within c.put_row.ensures.rows
    c.in-Some.is

pub returns-in-Some-clause-order : goal.returns-in-Some-clause-order
returns-in-Some-clause-order c =
    let from = rw c.as_slice.ensures.value at c.count_before-from.ensures in
    let to = rw c.as_slice-2.ensures.value at c.count_to-to.ensures in
    subst IsInOrder (sym (one_made c.args.rows.now.items c.args.change c.count_before-from.result
    c.count_to-to.result c.take_out.new.rows.items
    c.take_out.ensures.rows from.front to.back c.put_row.new.rows.items c.in-Some.body from.within
    c.put_row.ensures.rows c.in-Some.is))
    (order_kept c.args.rows.now.items c.args.change c.requires.order)

pub returns-in_default-clause-order : goal.returns-in_default-clause-order
returns-in_default-clause-order c =
    let from = rw c.as_slice.ensures.value at c.count_before-from.ensures in
    let to = rw c.as_slice-2.ensures.value at c.count_to-to.ensures in
    subst IsInOrder (sym (none_made c.args.rows.now.items c.args.change c.count_before-from.result
    c.count_to-to.result c.take_out.new.rows.items
    c.take_out.ensures.rows from.front to.back c.in_default.is))
    (order_kept c.args.rows.now.items c.args.change c.requires.order)
