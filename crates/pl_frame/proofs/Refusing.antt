-- A refusal of the evaluation, as a problem of the expression.
use Rattle.std.proofs.Common.{◌≡◌, Err, subst, ap, sym, ◌∙◌}
use Rattle.pl_base.specs.declared.origin.Origin.{Origin}
use Rattle.pl_expr.specs.declared.expr.Expr.{Expr}
use Rattle.pl_eval.specs.declared.fault.EvalCode.{EvalCode}
use Rattle.pl_eval.specs.declared.fault.EvalFault.{EvalFault}
use Rattle.pl_eval.specs.declared.fault.EvalFault.TheVariants as fault
use Rattle.pl_eval.specs.Gives.{Refuses}
use Rattle.pl_eval.specs.Known.{Known}
use Rattle.pl_eval.specs.Means.{means}
use Rattle.pl_frame.specs.declared.problem.ExpressionProblem.TheVariants.{Undefined}
use Rattle.pl_frame.specs.Expressions.{defined}

pub refused : (known : Known) (here made : Origin) (expr : Expr) (why : EvalFault)
    (code : EvalCode) →
    why ≡ fault.Refused code → Refuses why (means known here expr) → here ≡ made →
    defined (means known made expr) ≡ Err (Undefined code)
refused known here made expr why code why_is refuses here_is =
    let P : EvalFault → Type 0 = λ why. Refuses why (means known here expr) in
    let code_is : means known here expr ≡ Err code = subst P why_is refuses in
    ap (λ here. defined (means known here expr)) (sym here_is) ∙ ap defined code_is
