use Rattle.std.proofs.Common.{inl, subst, sym, ◌∙◌}
use Rattle.std.proofs.lemmas.Bool.{false≢true}
use Rattle.pl_lock_queues.specs.Asked.{IsUnblockedAt, IsUpTo}
use Rattle.pl_lock_queues.proofs.Starting.{one_first}
use Rattle.pl_lock_queues.proofs.asking.better.Goals as goal

pub returns-in-Some-clause-here : goal.returns-in-Some-clause-here
returns-in-Some-clause-here c = λ p clear un.
    let lines = c.args.lines.now.lines in
    let same = one_first lines c.args.key.now p c.in-Some.place.now clear.first c.in-Some.ensures in
    subst (IsUpTo c.if_unblocked.result) (sym same)
    (c.if_unblocked.ensures.here
    (subst (IsUnblockedAt c.args.eligible.now lines c.args.marks.now) same un))

pub returns-in-None-clause-is : goal.returns-in-None-clause-is
returns-in-None-clause-is c = λ p e. inl e

pub returns-in-None-clause-here : goal.returns-in-None-clause-here
returns-in-None-clause-here c = λ p clear un.
    absurd (false≢true (sym (c.in-None.ensures p) ∙ clear.first.there))

pub returns-then-is_held-clause-here : goal.returns-then-is_held-clause-here
returns-then-is_held-clause-here c = λ p clear un.
    absurd (false≢true (sym clear.free ∙ (sym c.is_held.ensures ∙ c.if-is_held.true)))

pub returns-then-is_held-clause-is : goal.returns-then-is_held-clause-is
returns-then-is_held-clause-is c = λ p e. inl e
