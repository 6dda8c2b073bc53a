use Rattle.std.proofs.Common.{arith}
use Rattle.pl_log.proofs.Keeping.{kept_nothing}
use Rattle.pl_log.proofs.log.Log.new.Goals as goal

pub invariant_of-result : goal.invariant_of-result
invariant_of-result g c = (
  kept_nothing g.T.Keyed.named g.T.Keyed.second c.new-2.result
      c.new-3.result c.new.result.items c.new.ensures.items c.new-2.ensures c.new-3.ensures,
  omega arith,
)
