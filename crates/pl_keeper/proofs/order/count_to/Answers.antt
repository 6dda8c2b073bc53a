use Rattle.std.proofs.Common.{not, rules, []}
use Rattle.std.proofs.lemmas.List.Sorted.{IsPartitionPoint-from_clause}
use Rattle.pl_base.specs.declared.row.Row.{Row}
use Rattle.pl_keeper.specs.Keeping.{comes_before}
use Rattle.pl_keeper.proofs.Changing.{cut, not_behind_first, twice}
use Rattle.pl_keeper.proofs.order.count_to.Goals as goal

pub returns-clause-back : goal.returns-clause-back
returns-clause-back c =
    let at : Row = record { table = c.args.table; key = c.args.key.now; body = [] } in
    let point = IsPartitionPoint-from_clause (λ (row : Row). not (comes_before at row))
    c.args.rows.now c.partition_point.result
    c.partition_point.ensures.partitioned (not_behind_first c.args.rows.now at c.requires)
    (λ a r q called. search rules) in
    (cut (λ (row : Row). not (comes_before at row)) (λ row. comes_before at row)
    (λ row. twice (comes_before at row)) c.args.rows.now
    c.partition_point.result c.partition_point.ensures.bound point.0 point.1).1
