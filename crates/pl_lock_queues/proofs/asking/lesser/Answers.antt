use Rattle.std.proofs.Common.{Some, ap, inl, inr, subst, sym, ◌∙◌, ⊎_elim}
use Rattle.std.proofs.Common.{Option}
use Rattle.pl_lock_queues.specs.Asked.{IsUpTo}
use Rattle.pl_lock_queues.specs.Queues.{Place}
use Rattle.pl_lock_queues.proofs.Orders.{never_less, up_to_less}
use Rattle.pl_lock_queues.proofs.asking.lesser.Goals as goal

pub returns-in-Some-clause-is : goal.returns-in-Some-clause-is
returns-in-Some-clause-is c =
    ⊎_elim (λ e. inl (ap Some e ∙ sym c.in-Some.is)) (λ e. inr e) c.least_of.ensures.is

pub returns-in-Some-clause-kept : goal.returns-in-Some-clause-kept
returns-in-Some-clause-kept c = λ q upto.
    up_to_less c.in-Some.other c.least_of.result q c.least_of.ensures.one
    (subst (λ (o : Option Place). IsUpTo o q) c.in-Some.is upto)

pub returns-in-None-clause-kept : goal.returns-in-None-clause-kept
returns-in-None-clause-kept c = λ q upto.
    absurd (subst (λ (o : Option Place). IsUpTo o q) c.in-None.is upto)

pub returns-in-None-clause-here : goal.returns-in-None-clause-here
returns-in-None-clause-here c = never_less c.args.place
