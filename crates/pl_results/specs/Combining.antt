-- How results combine: those of a stage's jobs to the stage's, those of a job's legs to the job's
-- (Microsoft Learn, "Stages" and "Jobs"). The order in which one result outweighs another is this
-- project's own.
use Rattle.std.specs.Prelude.{Bool, true, false, List, [], ◌∷◌, if◌then◌else◌}
use Rattle.std.specs.List.{list_any}
use Rattle.pl_base.specs.declared.outcome.Outcome.{Outcome}
use Rattle.pl_base.specs.declared.outcome.Outcome.TheVariants.{Succeeded, SucceededWithIssues}
use Rattle.pl_base.specs.declared.outcome.Outcome.TheVariants.{Failed, Canceled, Skipped}

abbrev pub is_failed : Outcome → Bool
is_failed Failed = true
is_failed other = false

abbrev pub is_canceled : Outcome → Bool
is_canceled Canceled = true
is_canceled other = false

abbrev pub has_issues : Outcome → Bool
has_issues SucceededWithIssues = true
has_issues other = false

abbrev pub is_success : Outcome → Bool
is_success Succeeded = true
is_success other = false

-- Failed if one is there, else Canceled, else SucceededWithIssues, else Succeeded, else Skipped
unfoldable pub combined : List Outcome → Outcome
combined results =
    if list_any is_failed results then Failed
    else if list_any is_canceled results then Canceled
    else if list_any has_issues results then SucceededWithIssues
    else if list_any is_success results then Succeeded
    else Skipped

-- of two results
abbrev pub worse : Outcome → Outcome → Outcome
worse one other = combined (one ∷ other ∷ [])
