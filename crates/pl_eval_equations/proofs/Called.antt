-- What each call gives, case by case over the meanings of its arguments.
use Rattle.std.proofs.Common.{◌≡◌, ℕ, Bool, true, false, Option, Some, None, Result, Ok, Err, List}
use Rattle.std.proofs.Common.{[]}
use Rattle.std.proofs.Common.{◌∷◌, map, refl, ap, ◌∙◌, rules}
use Rattle.std.specs.Prelude.{◌&&◌, not, if◌then◌else◌}
use Rattle.std.specs.Option.{option_map_or}
use Rattle.std.specs.declared.cmp.Ordering.{Ordering}
use Rattle.pl_base.specs.declared.origin.Origin.{Origin}
use Rattle.pl_base.specs.declared.value.Value.{Value, Bool as Truth}
use Rattle.pl_base.specs.declared.value.MarkedNode.{MarkedNode}
use Rattle.pl_expr.specs.Conversions.{bool_of, cast_text}
use Rattle.pl_expr.specs.declared.expr.Expr.{Expr, the_lemmas}
use Rattle.pl_expr.specs.declared.expr.Expr.TheVariants as expr
use Rattle.pl_expr.specs.declared.expr.Function.{Function}
use Rattle.pl_expr.specs.declared.expr.Function.TheVariants as function
use Rattle.pl_texts.specs.Bound.{bounded}
use Rattle.pl_texts.specs.Changing.{replaced}
use Rattle.pl_texts.specs.Formatting.{formatted}
use Rattle.pl_eval.specs.declared.fault.EvalCode.{EvalCode}
use Rattle.pl_eval.specs.declared.fault.EvalCode.TheVariants.{NotConvertible}
use Rattle.pl_eval.specs.declared.manner.BinaryFunction.{BinaryFunction}
use Rattle.pl_eval.specs.declared.manner.Operation.TheVariants.{One, Two, Replace, Format}
use Rattle.pl_eval.specs.declared.manner.UnaryFunction.{UnaryFunction}
use Rattle.pl_eval.specs.Applied.{applied, differ, of_one, of_two, ordered_by}
use Rattle.pl_eval.specs.Known.{Known}
use Rattle.pl_eval.specs.Means.{Meaning, answer, called, chosen, first_is_among, is_among, means}
use Rattle.pl_eval.specs.Means.{status, truth, values}
use Rattle.pl_eval.specs.Statuses.{status_of}
use Rattle.pl_reading.specs.Steps.{◌>>=◌}
use Rattle.pl_eval.specs.Texts.{text_value}
use Rattle.pl_eval_equations.specs.Equations.{OfOne, OfTwo, Status, any_ran, exactly_one}

pub call_is : (known : Known) (here : Origin) (function : Function) (arguments : List Expr) →
    means known here (expr.Call function arguments)
    ≡ called known here function (map (means known here) arguments)
call_is known here function arguments = search (rules, the_lemmas)

abbrev pub value_in : Meaning → Result Value EvalCode
value_in meant = meant >>= λ node. Ok node.value

module _ (here : Origin) where
  pub one_by : (of : UnaryFunction) (makes : Value → Result Value EvalCode) →
      ((value : Value) → of_one of value ≡ makes value) → (one : Meaning) →
      (values (one ∷ []) >>= λ nodes. applied here (One of) nodes >>= answer here)
      ≡ (value_in one >>= λ value. makes value >>= answer here)
  unfolding values
  one_by of makes is (Ok node) = ap (λ made. made >>= answer here) (is node.value)
  one_by of makes is (Err code) = refl

  pub two_by : (of : BinaryFunction) (makes : Origin → Value → Value → Result Value EvalCode) →
      ((left right : Value) → of_two here of left right ≡ makes here left right) →
      (left right : Meaning) →
      (values (left ∷ right ∷ []) >>= λ nodes. applied here (Two of) nodes >>= answer here)
      ≡ (value_in left >>= λ left. value_in right >>= λ right.
      makes here left right >>= answer here)
  unfolding values
  two_by of makes is (Ok left) (Ok right) =
      ap (λ made. made >>= answer here) (is left.value right.value)
  two_by of makes is (Ok left) (Err code) = refl
  two_by of makes is (Err code) right = refl

  pub three_by : (text sought new : Meaning) →
      (values (text ∷ sought ∷ new ∷ []) >>= λ nodes. applied here Replace nodes >>= answer here)
      ≡ (value_in text >>= λ text. value_in sought >>= λ sought. value_in new >>= λ new.
      text_value (bounded (replaced (cast_text text) (cast_text sought) (cast_text new)))
      >>= answer here)
  unfolding values
  three_by (Ok text) (Ok sought) (Ok new) = refl
  three_by (Ok text) (Ok sought) (Err code) = refl
  three_by (Ok text) (Err code) new = refl
  three_by (Err code) sought new = refl

  formatted_by : (pattern : MarkedNode) (nodes : Result (List MarkedNode) EvalCode) →
      ((nodes >>= λ nodes. Ok (pattern ∷ nodes)) >>= λ nodes.
      applied here Format nodes >>= answer here)
      ≡ (nodes >>= λ nodes.
      text_value (formatted (map (λ node. cast_text node.value) nodes) (cast_text pattern.value))
      >>= answer here)
  formatted_by pattern (Ok nodes) = refl
  formatted_by pattern (Err code) = refl

  pub format_by : (pattern : Meaning) (arguments : List Meaning) →
      (values (pattern ∷ arguments) >>= λ nodes. applied here Format nodes >>= answer here)
      ≡ (value_in pattern >>= λ pattern. values arguments >>= λ nodes.
      text_value (formatted (map (λ node. cast_text node.value) nodes) (cast_text pattern))
      >>= answer here)
  unfolding values
  format_by (Ok pattern) arguments = formatted_by pattern (values arguments)
  format_by (Err code) arguments = refl

  pub chosen_by : (condition left right : Meaning) →
      chosen here (condition ∷ left ∷ right ∷ [])
      ≡ (value_in condition >>= λ condition. if bool_of condition then left else right)
  chosen_by (Ok condition) left right = refl
  chosen_by (Err code) left right = refl

  pub among_by : (left : Meaning) (others : List Meaning) (next : Bool → Meaning) →
      (first_is_among here (left ∷ others) >>= next)
      ≡ (value_in left >>= λ left. is_among left others >>= next)
  among_by (Ok left) others next = refl
  among_by (Err code) others next = refl

  pub status_by : (known : Known) (function : Function) (test : Known → List (List ℕ) → Bool) →
      ((names : List (List ℕ)) → status_of known function names ≡ test known names) →
      (nodes : Result (List MarkedNode) EvalCode) →
      (nodes >>= status known here function)
      ≡ (nodes >>= λ nodes. truth here (test known (map (λ node. cast_text node.value) nodes)))
  status_by known function test is (Ok nodes) =
      ap (truth here) (is (map (λ node. cast_text node.value) nodes))
  status_by known function test is (Err code) = refl

pub differ_is : (left right : Bool) → differ left right ≡ exactly_one left right
differ_is true true = refl
differ_is true false = refl
differ_is false true = refl
differ_is false false = refl

pub compared_is : (test : Ordering → Bool) (order : Option Ordering) →
    (ordered_by order >>= λ order. Ok (Truth (test order)))
    ≡ option_map_or (λ order. Ok (Truth (test order))) order (Err NotConvertible)
compared_is test None = refl
compared_is test (Some order) = refl

and_true : (b : Bool) → b ≡ (b && true)
and_true true = refl
and_true false = refl

pub ran_is : (known : Known) (names : List (List ℕ)) →
    status_of known function.SucceededOrFailed names
    ≡ (not known.canceled && any_ran known names)
ran_is known [] = and_true (not known.canceled)
ran_is known (name ∷ names) = refl

-- ---- one equation for each function of one, of two, and of any values

module _ (f : Function) where
  pub one_is : (of : UnaryFunction) (makes : Value → Result Value EvalCode) →
      ((value : Value) → of_one of value ≡ makes value) →
      ((known : Known) (here : Origin) (one : Meaning) →
      called known here f (one ∷ [])
      ≡ (values (one ∷ []) >>= λ nodes. applied here (One of) nodes >>= answer here)) →
      OfOne f makes
  one_is of makes makes_is called_is known here one =
      call_is known here f (one ∷ [])
      ∙ (called_is known here (means known here one)
      ∙ one_by here of makes makes_is (means known here one))

  pub two_is : (of : BinaryFunction) (makes : Origin → Value → Value → Result Value EvalCode) →
      ((here : Origin) (left right : Value) → of_two here of left right ≡ makes here left right) →
      ((known : Known) (here : Origin) (left right : Meaning) →
      called known here f (left ∷ right ∷ [])
      ≡ (values (left ∷ right ∷ []) >>= λ nodes. applied here (Two of) nodes >>= answer here)) →
      OfTwo f makes
  two_is of makes makes_is called_is known here left right =
      call_is known here f (left ∷ right ∷ [])
      ∙ (called_is known here (means known here left) (means known here right)
      ∙ two_by here of makes (makes_is here) (means known here left) (means known here right))

  pub status_is : (test : Known → List (List ℕ) → Bool) →
      ((known : Known) (names : List (List ℕ)) → status_of known f names ≡ test known names) →
      ((known : Known) (here : Origin) (arguments : List Meaning) →
      called known here f arguments ≡ (values arguments >>= status known here f)) →
      Status f test
  status_is test test_is called_is known here arguments =
      call_is known here f arguments
      ∙ (called_is known here (map (means known here) arguments)
      ∙ status_by here known f test (test_is known) (values (map (means known here) arguments)))

pub always_is : (known : Known) (here : Origin) →
    means known here (expr.Call function.Always []) ≡ truth here true
unfolding values
always_is known here = call_is known here function.Always []

pub canceled_is : (known : Known) (here : Origin) →
    means known here (expr.Call function.Canceled []) ≡ truth here known.canceled
unfolding values
canceled_is known here = call_is known here function.Canceled []
