use Rattle.std.proofs.Common.{sym, ◌∙◌}
use Rattle.pl_frame.proofs.Doubled.{keys_more, double_here, double_later}
use Rattle.pl_frame.proofs.doubles.double_by_set.Goals as goal

pub returns-then-contains : goal.returns-then-contains
returns-then-contains c =
    double_here _ _ _ _ c.loop-pair-test.true c.pair-item.is
    (sym (c.loop-pair.invariant.same c.pair-item.result.key) ∙ sym c.if-contains.ensures)
    c.loop-pair.invariant.walked

pub loop-pair-preserved : goal.loop-pair-preserved
loop-pair-preserved c = record {
  same = λ key.
      keys_more _ _ _ _ _ _ key c.loop-pair-test.true c.pair-item.is c.in_ok-copy.ensures
      (c.in_ok-insert.ensures.updates.0 key) (c.loop-pair.invariant.same key);
  walked =
      double_later _ _ _ _ c.loop-pair-test.true c.pair-item.is
      (sym (c.loop-pair.invariant.same c.pair-item.result.key) ∙ sym c.if-contains.ensures)
      c.loop-pair.invariant.walked;
}
