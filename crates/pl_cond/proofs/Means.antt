-- What expressions mean without names, once the values of names stand in their place.
use Rattle.std.proofs.Common.{◌≡◌, ℕ, Bool, Option, List, [], ◌∷◌, ◌++◌, map, refl, ap, sym, ◌∙◌}
use Rattle.std.specs.Prelude.{◌&&◌, not, Result, Ok, Err}
use Rattle.std.specs.List.{list_all, list_any}
use Rattle.std.specs.FinMap as finite
use Rattle.pl_base.specs.Files.{text_cmp}
use Rattle.pl_base.specs.declared.origin.Origin.{Origin}
use Rattle.pl_base.specs.declared.outcome.Outcome.{Outcome}
use Rattle.pl_base.specs.declared.value.Value.{Str}
use Rattle.pl_base.specs.declared.value.MarkedNode.{MarkedNode}
use Rattle.pl_expr.specs.Conversions.{cast_text}
use Rattle.pl_expr.specs.Functions.{most_of}
use Rattle.pl_expr.specs.declared.expr.Function.{Function}
use Rattle.pl_expr.specs.declared.expr.Function.TheVariants as call
use Rattle.pl_eval.specs.Known.{Known}
use Rattle.pl_eval.specs.LookUps.{looked_up}
use Rattle.pl_eval.specs.Means.{Meaning, called, truth, up_to, values}
use Rattle.pl_eval.specs.Statuses.{results, results_named, status_of, was_run, went_well}
use Rattle.pl_eval.specs.Statuses.{went_wrong}
use Rattle.pl_reading.specs.Steps.{◌>>=◌}
use Rattle.pl_cond.specs.Paths.{along}

-- ---- functions look at no names

module _ (some other : finite.FinMap text_cmp MarkedNode) (canceled : Bool)
    (all : List (Option Outcome)) (named : List (List ℕ × Outcome)) where
  abbrev pub with_names : finite.FinMap text_cmp MarkedNode → Known
  with_names roots =
      record { roots = roots; canceled = canceled; all = all; named = named }

  same_results : (names : List (List ℕ)) →
      results (with_names some) names ≡ results (with_names other) names
  same_results [] = refl
  same_results (name ∷ names) = refl

  same_status : (function : Function) (names : List (List ℕ)) →
      status_of (with_names some) function names ≡ status_of (with_names other) function names
  same_status call.Succeeded names =
      ap (λ rs. not canceled && list_all went_well rs) (same_results names)
  same_status call.Failed names = ap (list_any went_wrong) (same_results names)
  same_status call.SucceededOrFailed [] = refl
  same_status call.SucceededOrFailed (name ∷ names) = refl
  same_status call.Always names = refl
  same_status call.Canceled names = refl
  same_status function names = refl

  same_tests : (here : Origin) (function : Function) (arguments : List Meaning) →
      (values (up_to (most_of function) arguments) >>= λ nodes.
      truth here (status_of (with_names some) function (map (λ node. cast_text node.value) nodes)))
      ≡ (values (up_to (most_of function) arguments) >>= λ nodes.
      truth here (status_of (with_names other) function (map (λ node. cast_text node.value) nodes)))
  same_tests here function arguments =
      λ i. values (up_to (most_of function) arguments) >>= λ nodes.
      truth here (same_status function (map (λ node. cast_text node.value) nodes) i)

  pub same_call : (here : Origin) (function : Function) (arguments : List Meaning) →
      called (with_names some) here function arguments ≡
      called (with_names other) here function arguments
  same_call here call.Always arguments = same_tests here call.Always arguments
  same_call here call.Canceled arguments = same_tests here call.Canceled arguments
  same_call here call.Failed arguments = same_tests here call.Failed arguments
  same_call here call.Succeeded arguments = same_tests here call.Succeeded arguments
  same_call here call.SucceededOrFailed arguments =
      same_tests here call.SucceededOrFailed arguments
  same_call here function arguments = refl

-- ---- one name more

pub along_last : (here : Origin) (of : Meaning) (names : List (List ℕ)) (name : List ℕ) →
    along here of (names ++ name ∷ []) ≡
    (along here of names >>= λ node. Ok (looked_up here node.value (Str name)))
along_last here of [] name = refl
along_last here of (first ∷ names) name =
    along_last here (of >>= λ node. Ok (looked_up here node.value (Str first))) names name
