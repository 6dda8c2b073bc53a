use Rattle.std.proofs.Common.{◌<◌, ℕ, None, subst, sym}
use Rattle.pl_checks.specs.Approvals.{deadline}
use Rattle.pl_checks.specs.declared.check.Check.{Check}
use Rattle.pl_wakes.specs.Steady.{IsBefore, IsSteady}
use Rattle.pl_wakes.proofs.Staying.{approval_stays, branch_stays, next_stays, template_stays}
use Rattle.pl_wakes.proofs.steady.check_until.Goals as goal

pub returns-in-RequiredTemplate-clause-steady : goal.returns-in-RequiredTemplate-clause-steady
returns-in-RequiredTemplate-clause-steady c = λ view same.
    subst (λ (check : Check). IsSteady check view c.args.moment None)
    (sym c.in-RequiredTemplate.is)
    (template_stays c.in-RequiredTemplate.field-0 view c.args.moment None)

pub returns-in-Branch-clause-steady : goal.returns-in-Branch-clause-steady
returns-in-Branch-clause-steady c = λ view same.
    subst (λ (check : Check). IsSteady check view c.args.moment None) (sym c.in-Branch.is)
    (branch_stays c.in-Branch.field-0 view c.args.moment None)

pub returns-in-Approval-clause-steady : goal.returns-in-Approval-clause-steady
returns-in-Approval-clause-steady c = λ view same.
    let minutes = c.in-Approval.approval.minutes in
    subst (λ (check : Check). IsSteady check view c.args.moment c.time_over.result)
    (sym c.in-Approval.is)
    (approval_stays c.in-Approval.approval view c.args.moment c.time_over.result
    (subst (λ ready. c.args.moment < deadline ready minutes → (later : ℕ) →
    IsBefore later c.time_over.result → later < deadline ready minutes) (sym same)
    c.time_over.ensures.within))

pub returns-in-Hours-clause-steady : goal.returns-in-Hours-clause-steady
returns-in-Hours-clause-steady c = λ view same.
    next_stays c.args.check.now view c.args.moment
