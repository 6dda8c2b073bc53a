use Rattle.std.proofs.Common.{◌∷◌, [], map, Ok, not, refl, ap, ◌∙◌, rules}
use Rattle.std.specs.Ordering.{is_lt, is_le, is_gt, is_ge}
use Rattle.pl_base.specs.declared.value.Value.{Bool as Truth}
use Rattle.pl_expr.specs.Conversions.{bool_of, order_of}
use Rattle.pl_expr.specs.declared.expr.Expr.{the_lemmas}
use Rattle.pl_expr.specs.declared.expr.Function.TheVariants as function
use Rattle.pl_eval.specs.declared.manner.BinaryFunction.TheVariants as binary
use Rattle.pl_eval.specs.declared.manner.UnaryFunction.TheVariants as unary
use Rattle.pl_eval.specs.Means.{means, truth}
use Rattle.pl_eval_equations.proofs.Called.{always_is, among_by, call_is, canceled_is, chosen_by}
use Rattle.pl_eval_equations.proofs.Called.{compared_is, differ_is, format_by, one_is, ran_is}
use Rattle.pl_eval_equations.proofs.Called.{status_is, three_by, two_is}
use Rattle.pl_eval_equations.proofs.laws.equations.Goals as goal

pub returns-clause-literal : goal.returns-clause-literal
returns-clause-literal c known here value = search (rules, the_lemmas)

pub returns-clause-root : goal.returns-clause-root
returns-clause-root c known here name = search (rules, the_lemmas)

pub returns-clause-index : goal.returns-clause-index
returns-clause-index c known here of at = search (rules, the_lemmas)

pub returns-clause-projection : goal.returns-clause-projection
returns-clause-projection c known here of names = search (rules, the_lemmas)

pub returns-clause-call : goal.returns-clause-call
returns-clause-call c = call_is

pub returns-clause-calls_not : goal.returns-clause-calls_not
returns-clause-calls_not c =
    one_is function.Not unary.Not _ (λ value. refl) (λ known here one. refl)

pub returns-clause-calls_lower : goal.returns-clause-calls_lower
returns-clause-calls_lower c =
    one_is function.Lower unary.Lower _ (λ value. refl) (λ known here one. refl)

pub returns-clause-calls_upper : goal.returns-clause-calls_upper
returns-clause-calls_upper c =
    one_is function.Upper unary.Upper _ (λ value. refl) (λ known here one. refl)

pub returns-clause-calls_trim : goal.returns-clause-calls_trim
returns-clause-calls_trim c =
    one_is function.Trim unary.Trim _ (λ value. refl) (λ known here one. refl)

pub returns-clause-calls_length : goal.returns-clause-calls_length
returns-clause-calls_length c =
    one_is function.Length unary.Length _ (λ value. refl) (λ known here one. refl)

pub returns-clause-calls_eq : goal.returns-clause-calls_eq
returns-clause-calls_eq c =
    two_is function.Eq binary.Eq _ (λ here left right. refl)
    (λ known here left right. refl)

pub returns-clause-calls_ne : goal.returns-clause-calls_ne
returns-clause-calls_ne c =
    two_is function.Ne binary.Ne _ (λ here left right. refl)
    (λ known here left right. refl)

pub returns-clause-calls_contains_value : goal.returns-clause-calls_contains_value
returns-clause-calls_contains_value c =
    two_is function.ContainsValue binary.ContainsValue _ (λ here left right. refl)
    (λ known here left right. refl)

pub returns-clause-calls_contains : goal.returns-clause-calls_contains
returns-clause-calls_contains c =
    two_is function.Contains binary.Contains _ (λ here left right. refl)
    (λ known here left right. refl)

pub returns-clause-calls_starts_with : goal.returns-clause-calls_starts_with
returns-clause-calls_starts_with c =
    two_is function.StartsWith binary.StartsWith _ (λ here left right. refl)
    (λ known here left right. refl)

pub returns-clause-calls_ends_with : goal.returns-clause-calls_ends_with
returns-clause-calls_ends_with c =
    two_is function.EndsWith binary.EndsWith _ (λ here left right. refl)
    (λ known here left right. refl)

pub returns-clause-calls_join : goal.returns-clause-calls_join
returns-clause-calls_join c =
    two_is function.Join binary.Join _ (λ here left right. refl)
    (λ known here left right. refl)

pub returns-clause-calls_split : goal.returns-clause-calls_split
returns-clause-calls_split c =
    two_is function.Split binary.Split _ (λ here left right. refl)
    (λ known here left right. refl)

pub returns-clause-calls_xor : goal.returns-clause-calls_xor
returns-clause-calls_xor c =
    two_is function.Xor binary.Xor _
    (λ here left right. ap (λ is. Ok (Truth is)) (differ_is (bool_of left) (bool_of right)))
    (λ known here left right. refl)

pub returns-clause-calls_lt : goal.returns-clause-calls_lt
returns-clause-calls_lt c =
    two_is function.Lt binary.Lt _
    (λ here left right. compared_is is_lt (order_of left right)) (λ known here left right. refl)

pub returns-clause-calls_le : goal.returns-clause-calls_le
returns-clause-calls_le c =
    two_is function.Le binary.Le _
    (λ here left right. compared_is is_le (order_of left right)) (λ known here left right. refl)

pub returns-clause-calls_gt : goal.returns-clause-calls_gt
returns-clause-calls_gt c =
    two_is function.Gt binary.Gt _
    (λ here left right. compared_is is_gt (order_of left right)) (λ known here left right. refl)

pub returns-clause-calls_ge : goal.returns-clause-calls_ge
returns-clause-calls_ge c =
    two_is function.Ge binary.Ge _
    (λ here left right. compared_is is_ge (order_of left right)) (λ known here left right. refl)

pub returns-clause-calls_and : goal.returns-clause-calls_and
returns-clause-calls_and c known here first second others =
    call_is known here function.And (first ∷ second ∷ others)

pub returns-clause-calls_or : goal.returns-clause-calls_or
returns-clause-calls_or c known here = call_is known here function.Or

pub returns-clause-calls_coalesce : goal.returns-clause-calls_coalesce
returns-clause-calls_coalesce c known here = call_is known here function.Coalesce

pub returns-clause-calls_iif : goal.returns-clause-calls_iif
returns-clause-calls_iif c known here condition left right =
    call_is known here function.Iif (condition ∷ left ∷ right ∷ [])
    ∙ chosen_by here (means known here condition) (means known here left) (means known here right)

pub returns-clause-calls_in : goal.returns-clause-calls_in
returns-clause-calls_in c known here left others =
    call_is known here function.In (left ∷ others)
    ∙ among_by here (means known here left) (map (means known here) others) (truth here)

pub returns-clause-calls_not_in : goal.returns-clause-calls_not_in
returns-clause-calls_not_in c known here left others =
    call_is known here function.NotIn (left ∷ others)
    ∙ among_by here (means known here left) (map (means known here) others)
    (λ is. truth here (not is))

pub returns-clause-calls_replace : goal.returns-clause-calls_replace
returns-clause-calls_replace c known here text sought new =
    call_is known here function.Replace (text ∷ sought ∷ new ∷ [])
    ∙ three_by here (means known here text) (means known here sought) (means known here new)

pub returns-clause-calls_format : goal.returns-clause-calls_format
returns-clause-calls_format c known here pattern arguments =
    call_is known here function.Format (pattern ∷ arguments)
    ∙ format_by here (means known here pattern) (map (means known here) arguments)

pub returns-clause-calls_always : goal.returns-clause-calls_always
returns-clause-calls_always c known here = always_is known here

pub returns-clause-calls_canceled : goal.returns-clause-calls_canceled
returns-clause-calls_canceled c known here = canceled_is known here

pub returns-clause-calls_failed : goal.returns-clause-calls_failed
returns-clause-calls_failed c =
    status_is function.Failed _ (λ known names. refl) (λ known here arguments. refl)

pub returns-clause-calls_succeeded : goal.returns-clause-calls_succeeded
returns-clause-calls_succeeded c =
    status_is function.Succeeded _ (λ known names. refl) (λ known here arguments. refl)

pub returns-clause-calls_succeeded_or_failed : goal.returns-clause-calls_succeeded_or_failed
returns-clause-calls_succeeded_or_failed c =
    status_is function.SucceededOrFailed _ ran_is (λ known here arguments. refl)
