use Rattle.std.proofs.Common.{not, refl, rules, []}
use Rattle.std.proofs.lemmas.List.Sorted.{IsPartitionPoint-from_clause}
use Rattle.pl_base.specs.declared.row.Row.{Row}
use Rattle.pl_keeper.specs.Keeping.{comes_before}
use Rattle.pl_keeper.proofs.Changing.{before_first, cut}
use Rattle.pl_keeper.proofs.order.count_before.Goals as goal

pub returns-clause-front : goal.returns-clause-front
returns-clause-front c =
    let at : Row = record { table = c.args.table; key = c.args.key.now; body = [] } in
    let point = IsPartitionPoint-from_clause (λ (row : Row). comes_before row at) c.args.rows.now
    c.partition_point.result
    c.partition_point.ensures.partitioned (before_first c.args.rows.now at c.requires)
    (λ a r q called. search rules) in
    (cut (λ (row : Row). comes_before row at) (λ row. not (comes_before row at)) (λ row. refl)
    c.args.rows.now c.partition_point.result
    c.partition_point.ensures.bound point.0 point.1).0
