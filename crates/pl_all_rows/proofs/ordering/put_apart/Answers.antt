use Rattle.std.proofs.Common.{◌≡◌, List, rules, ap, subst, ◌∙◌}
use Rattle.std.specs.List.{dedup}
use Rattle.std.specs.List.Sorted.{IsPermutation}
use Rattle.std.proofs.lemmas.Fn.{dedup_same}
use Rattle.std.proofs.lemmas.List.Sorted.{length_permutation}
use Rattle.pl_base.specs.declared.row.Row.{Row}
use Rattle.pl_all_rows.proofs.Leaving.{left_ascend, left_each, left_from, together}
use Rattle.pl_all_rows.proofs.Leaving.{written_back}
use Rattle.pl_all_rows.proofs.ordering.put_apart.Goals as goal

module _ (c : goal.After-dedup_by) where
  moved : IsPermutation c.args.rows.now.items c.put_in_order.new.rows
  moved = subst (λ (rows : List Row). IsPermutation rows c.put_in_order.new.rows)
      c.as_mut_slice.ensures.value c.put_in_order.ensures.rows

  left : c.dedup_by.new.self.items ≡ dedup together c.put_in_order.new.rows
  left =
      dedup_same _ together _ (λ x y b f' x' y' k. search rules) _ _ c.dedup_by.ensures.filtered
      ∙ ap (dedup together) (written_back _ c.put_in_order.new.rows c.args.rows.now.items
      c.args.rows.now.ok.0 (length_permutation c.args.rows.now.items c.put_in_order.new.rows moved))

pub returns-clause-ascend : goal.returns-clause-ascend
returns-clause-ascend c =
    left_ascend c.args.rows.now.items c.put_in_order.new.rows c.dedup_by.new.self.items (moved c)
    c.put_in_order.ensures.order (left c)

pub returns-clause-from : goal.returns-clause-from
returns-clause-from c =
    left_from c.args.rows.now.items c.put_in_order.new.rows c.dedup_by.new.self.items (moved c)
    c.put_in_order.ensures.order (left c)

pub returns-clause-each : goal.returns-clause-each
returns-clause-each c =
    left_each c.args.rows.now.items c.put_in_order.new.rows c.dedup_by.new.self.items (moved c)
    c.put_in_order.ensures.order (left c)
