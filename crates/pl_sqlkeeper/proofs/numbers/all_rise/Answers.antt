use Rattle.std.proofs.Common.{refl, arith}
use Rattle.pl_sqlkeeper.proofs.Numbering.{rise_more}
use Rattle.pl_sqlkeeper.proofs.numbers.all_rise.Goals as goal

pub loop-at-preserved : goal.loop-at-preserved
loop-at-preserved c =
    rise_more c.args.stored.now c.loop-at.at c.index-stored-at.result
    c.index-stored-at-in-loop-at.result (omega arith) (omega (arith, c.loop-at-test.true))
    c.index-stored-at.is c.index-stored-at-in-loop-at.is (c.if-not-rises.ensures refl)
    c.loop-at.invariant
