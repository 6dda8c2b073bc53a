use Rattle.pl_heads.proofs.FrontLemmas.{begun_at, stands_at, fault_stays}
use Rattle.pl_heads.proofs.front.read_head.Goals as goal

pub front_at-requires-clause-begun : goal.front_at-requires-clause-begun
front_at-requires-clause-begun c =
    begun_at c.args.bytes.now c.split_at.result.0.now c.split_at.result.1.now
    c.split_at-else-is_empty.result.0.now c.min.result
    c.min.ensures c.split_at.ensures.front c.split_at.ensures.back
    c.split_at-else-is_empty.ensures.front c.if-is_empty.ensures c.in-Partial.ensures

pub returns-else-is_empty : goal.returns-else-is_empty
returns-else-is_empty c =
    stands_at c.args.bytes.now c.split_at-else-is_empty.result.0.now c.front_at.result
    c.split_at-else-is_empty.ensures.front_len c.split_at-else-is_empty.ensures.front
    c.front_at.ensures

pub returns-in-Bad : goal.returns-in-Bad
returns-in-Bad c =
    fault_stays c.args.bytes.now c.split_at.result.0.now c.min.result c.in-Bad.fault
    c.split_at.ensures.front c.in-Bad.ensures
