use Rattle.std.proofs.Common.{sym, ◌∙◌}
use Rattle.std.proofs.lemmas.Bool.{false≢true}
use Rattle.pl_lock_queues.proofs.Orders.{never_less, not_less_back, not_less_then}
use Rattle.pl_lock_queues.proofs.asking.least_of.Goals as goal

pub returns-then-is_before-clause-one : goal.returns-then-is_before-clause-one
returns-then-is_before-clause-one c = never_less c.args.one

pub returns-then-is_before-clause-other : goal.returns-then-is_before-clause-other
returns-then-is_before-clause-other c =
    not_less_back c.args.one c.args.other (c.is_before.ensures.0 c.if-is_before.true)

pub returns-else-is_before-clause-one : goal.returns-else-is_before-clause-one
returns-else-is_before-clause-one c =
    not_less_then c.args.one c.args.other
    (λ h. false≢true (sym c.if-is_before.false ∙ c.is_before.ensures.1 h))

pub returns-else-is_before-clause-other : goal.returns-else-is_before-clause-other
returns-else-is_before-clause-other c = never_less c.args.other
