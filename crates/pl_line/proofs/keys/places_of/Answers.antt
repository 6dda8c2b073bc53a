use Rattle.pl_line.proofs.Laws.Keys.{numbered_turn}
use Rattle.pl_line.proofs.keys.places_of.Goals as goal

pub loop-pair-preserved : goal.loop-pair-preserved
loop-pair-preserved c =
    let l = c.loop-pair in
    numbered_turn l.places c.insert.new.self c.args.pairs.now l.pair-index l.at c.number_of.result
    c.pair-item.result c.in_ok-before.before c.loop-pair-test.true c.pair-item.is
    l.invariant.0 c.number_of.ensures c.in_ok-before.ensures.old c.if-is_some.ensures
    (λ n. c.in_ok-before.ensures.updates.0 n) l.invariant.1
