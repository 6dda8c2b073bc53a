use Rattle.pl_line.proofs.Laws.Keys.{placed_more}
use Rattle.pl_line.proofs.keys.placed.Goals as goal

pub returns : goal.returns
returns c =
    placed_more c.args.places c.insert.new.self c.args.pairs.now c.args.key.now c.number_of.result
    c.in_ok-before.before c.number_of.ensures c.in_ok-before.ensures.old c.if-is_some.ensures
    (λ n. c.in_ok-before.ensures.updates.0 n) c.requires
