use Rattle.std.proofs.Common.{◌+◌, take, ap, ◌∙◌, arith}
use Rattle.pl_rehearsal.proofs.Counted.{fact_more}
use Rattle.pl_rehearsal.specs.Summary.{superseded_among}
use Rattle.pl_rehearsal.proofs.counting.superseded_among.Goals as goal

pub loop-fact-preserved : goal.loop-fact-preserved
loop-fact-preserved c = record {
  counted = ap (λ n. n + c.weight-count.result) c.loop-fact.invariant.counted
      ∙ (ap (λ n. superseded_among (take c.loop-fact.fact-index c.args.facts.now) + n)
      c.weight-count.ensures.is ∙ fact_more c.args.facts.now c.loop-fact.fact-index c.fact-item.result
      c.loop-fact-test.true c.fact-item.is);
  within = omega (arith, c.loop-fact.invariant.within, c.weight-count.ensures.most);
}
