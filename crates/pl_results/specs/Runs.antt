-- What a view tells of a run. What it lacks hasn't ended and has no outputs.
use Rattle.std.specs.Prelude.{ℕ, List, [], slice_get, Option, Some, None, unwrap_or}
use Rattle.pl_base.specs.declared.outcome.Outcome.{Outcome}
use Rattle.pl_results.specs.declared.view.JobView.{JobView}
use Rattle.pl_results.specs.declared.view.RunView.{RunView}

abbrev pub views_of : RunView → ℕ → List JobView
views_of view stage = unwrap_or (slice_get view.jobs stage) []

abbrev pub result_at : List (Option Outcome) → ℕ → Option Outcome
result_at results at = unwrap_or (slice_get results at) None

abbrev pub view_result : Option JobView → Option Outcome
view_result None = None
view_result (Some view) = view.result

abbrev pub view_outputs : Option JobView → List (List ℕ × List ℕ)
view_outputs None = []
view_outputs (Some view) = view.outputs
