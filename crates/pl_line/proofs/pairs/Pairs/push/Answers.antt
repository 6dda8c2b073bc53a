use Rattle.std.proofs.Common.{refl}
use Rattle.pl_line.proofs.Laws.Keys.{kept_behind}
use Rattle.pl_line.proofs.pairs.Pairs.push.Goals as goal

pub invariant_of-self-2 : goal.invariant_of-self-2
invariant_of-self-2 c =
    let kept = kept_behind c.in_ok-keys.keys c.args.self.now.pairs c.as_slice.result.now
    c.push.new.self c.args.pair c.as_slice.ensures c.in_ok-push.ensures.ok
    (c.in_ok-keys.ensures c.args.pair refl)
    in
    record { same = kept.0; within = kept.1 }
