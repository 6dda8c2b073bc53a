use Rattle.std.proofs.Common.{arith}
use Rattle.pl_heads.proofs.Tallies.{counted_more, cut_here, few_more}
use Rattle.pl_heads.proofs.lines.cut.Goals as goal

pub returns-then-tally-eq-LINE_LIMIT : goal.returns-then-tally-eq-LINE_LIMIT
returns-then-tally-eq-LINE_LIMIT c =
    cut_here c.args.bytes.now c.loop-at.at c.loop-at.tally c.after_byte-tally.result
    c.loop-at-test.true
    c.loop-at.invariant.counted c.loop-at.invariant.few c.after_byte-tally.ensures
    c.if-tally-eq-LINE_LIMIT.true

pub loop-at-preserved : goal.loop-at-preserved
loop-at-preserved c = record {
  counted =
      counted_more c.args.bytes.now c.loop-at.at c.loop-at.tally c.after_byte-tally.result
      c.loop-at-test.true
      c.loop-at.invariant.counted c.after_byte-tally.ensures;
  few =
      few_more c.args.bytes.now c.loop-at.at c.loop-at.tally c.after_byte-tally.result
      c.loop-at.invariant.few c.after_byte-tally.ensures
      c.if-tally-eq-LINE_LIMIT.false;
}
