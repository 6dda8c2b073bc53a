use Rattle.std.proofs.Common.{◌≡◌, Option, Some, ap, inl, inr, subst, sym, ◌∙◌, ⊎_elim}
use Rattle.std.proofs.Common.{unwrap_or}
use Rattle.std.proofs.lemmas.Bool.{false≢true}
use Rattle.pl_lock_queues.specs.Asked.{IsUnblockedAt}
use Rattle.pl_lock_queues.specs.Queues.{Place}
use Rattle.pl_lock_queues.proofs.asking.if_unblocked.Goals as goal

inside : (a b : Place) → Some a ≡ Some b → a ≡ b
inside a b e = ap (λ (o : Option Place). unwrap_or o a) e

pub returns-then-is_unblocked-clause-is : goal.returns-then-is_unblocked-clause-is
returns-then-is_unblocked-clause-is c = λ p e.
    let un = c.is_unblocked.ensures.0 c.if-is_unblocked.true in
    ⊎_elim (λ same. inl (sym same ∙ e))
    (λ same. inr (subst (IsUnblockedAt c.args.eligible.now c.args.lines.now.lines c.args.marks.now)
    (sym same ∙ inside c.lesser.result p e) un)) c.lesser.ensures.is

pub returns-then-is_unblocked-clause-here : goal.returns-then-is_unblocked-clause-here
returns-then-is_unblocked-clause-here c = λ un. c.lesser.ensures.here

pub returns-else-is_unblocked-clause-is : goal.returns-else-is_unblocked-clause-is
returns-else-is_unblocked-clause-is c = λ p e. inl e

pub returns-else-is_unblocked-clause-here : goal.returns-else-is_unblocked-clause-here
returns-else-is_unblocked-clause-here c = λ un.
    absurd (false≢true (sym c.if-is_unblocked.false ∙ c.is_unblocked.ensures.1 un))
