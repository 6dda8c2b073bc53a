use Rattle.std.proofs.Common.{sym, ◌∙◌}
use Rattle.pl_lock_queues.proofs.Keys.{made_same}
use Rattle.pl_lock_queues.proofs.marks.make_mark.Goals as goal

pub returns-in_ok-insert-clause-same : goal.returns-in_ok-insert-clause-same
returns-in_ok-insert-clause-same c =
    let updates = rw c.in_ok-copy.ensures at c.in_ok-insert.ensures.updates in
    made_same c.args.key.now c.args.marks.now c.insert.new.self
    (sym c.contains_key.ensures ∙ c.if-not-contains_key.true) (λ k. updates.0 k)
