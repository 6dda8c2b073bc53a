use Rattle.std.proofs.Common.{rules, [], ℕ, List}
use Rattle.std.proofs.lemmas.List.Sorted.{IsPartitionPoint-from_clause}
use Rattle.pl_torn.specs.Finding.{is_before}
use Rattle.pl_torn.proofs.Finding.{before_first}
use Rattle.pl_torn.proofs.seen.count_before.Goals as goal

pub returns : goal.returns
returns c =
    let at : ℕ × List ℕ = (c.args.table, c.args.key.now) in
    let point = IsPartitionPoint-from_clause (is_before at) c.args.all.now
    c.partition_point.result c.partition_point.ensures.partitioned
    (before_first at c.args.all.now c.requires.order) (λ a r q called. search rules) in
    record { within = c.partition_point.ensures.bound; front = point.0; back = point.1 }
