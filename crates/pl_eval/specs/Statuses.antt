-- The status functions (Microsoft Learn, Azure Pipelines, "Expressions", Job status check
-- functions).
use Rattle.std.specs.Prelude.{ℕ, Bool, true, false, not, ◌&&◌, List, [], ◌∷◌, map, find, Option}
use Rattle.std.specs.Prelude.{Some}
use Rattle.std.specs.Option.{option_map}
use Rattle.std.specs.List.{list_all, list_any}
use Rattle.pl_base.specs.declared.outcome.Outcome.{Outcome}
use Rattle.pl_base.specs.declared.outcome.Outcome.TheVariants as ended
use Rattle.pl_expr.specs.declared.expr.Function.{Function}
use Rattle.pl_expr.specs.declared.expr.Function.TheVariants.{Always, Canceled, Failed, Succeeded}
use Rattle.pl_expr.specs.declared.expr.Function.TheVariants.{SucceededOrFailed}
use Rattle.pl_eval.specs.Known.{Known, same_name}

abbrev pub is_status : Function → Bool
is_status Always = true
is_status Canceled = true
is_status Failed = true
is_status Succeeded = true
is_status SucceededOrFailed = true
is_status function = false

-- Succeeded or SucceededWithIssues; what hasn't ended has no result
abbrev pub went_well : Option Outcome → Bool
went_well (Some ended.Succeeded) = true
went_well (Some ended.SucceededWithIssues) = true
went_well result = false

abbrev pub went_wrong : Option Outcome → Bool
went_wrong (Some ended.Failed) = true
went_wrong result = false

-- Succeeded, SucceededWithIssues or Failed
abbrev pub was_run : Option Outcome → Bool
was_run (Some ended.Succeeded) = true
was_run (Some ended.SucceededWithIssues) = true
was_run (Some ended.Failed) = true
was_run result = false

-- the result of that name, its case aside: that of the first pair; a name without a pair has none
abbrev pub result_named : List (List ℕ × Outcome) → List ℕ → Option Outcome
result_named named name = option_map (λ pair. pair.1) (find (λ pair. same_name name pair.0) named)

abbrev pub results_named : List (List ℕ × Outcome) → List (List ℕ) → List (Option Outcome)
results_named named names = map (result_named named) names

-- the results that a call looks at: all of them, or those of its names
abbrev pub results : Known → List (List ℕ) → List (Option Outcome)
results known [] = known.all
results known (name ∷ names) = results_named known.named (name ∷ names)

-- what a status function answers
abbrev pub status_of : Known → Function → List (List ℕ) → Bool
status_of known Always names = true
status_of known Canceled names = known.canceled
status_of known Succeeded names = not known.canceled && list_all went_well (results known names)
status_of known Failed names = list_any went_wrong (results known names)
status_of known SucceededOrFailed [] = not known.canceled
status_of known SucceededOrFailed (name ∷ names) = not known.canceled &&
    list_any was_run (results_named known.named (name ∷ names))
status_of known function names = false
