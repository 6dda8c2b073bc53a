-- Stages, jobs and variables as values of expressions (Microsoft Learn, "Expressions",
-- Dependencies: each has `result` and `outputs`).
use Rattle.std.specs.Prelude.{ℕ, List, [], ◌∷◌, ◌++◌, map, flat_map, codes, Option, Some, None}
use Rattle.pl_base.specs.declared.origin.Origin.{Origin}
use Rattle.pl_base.specs.declared.outcome.Outcome.{Outcome}
use Rattle.pl_base.specs.declared.outcome.Outcome.TheVariants as ended
use Rattle.pl_base.specs.declared.value.Value.{Value, Null, Str, Object}
use Rattle.pl_base.specs.declared.value.MarkedPair.{MarkedPair}
use Rattle.pl_eval.specs.LookUps.{made}
use Rattle.pl_results.specs.declared.legs.Leg.{Leg}
use Rattle.pl_results.specs.declared.parts.Group.{Group}
use Rattle.pl_results.specs.declared.parts.Part.{Part}
use Rattle.pl_results.specs.Parts.{in_order, job_parts}
use Rattle.pl_cond.specs.declared.variables.Variable.{Variable as Evaluated}

-- all of it is made where the condition stands
abbrev pub pair : Origin → List ℕ → Value → MarkedPair
pair here key value = record { key = key; key_origin = here; item = made here value }

abbrev pub outcome_name : Outcome → List ℕ
outcome_name ended.Succeeded = codes "Succeeded"
outcome_name ended.SucceededWithIssues = codes "SucceededWithIssues"
outcome_name ended.Failed = codes "Failed"
outcome_name ended.Canceled = codes "Canceled"
outcome_name ended.Skipped = codes "Skipped"

-- Null where it hasn't ended
abbrev pub result_value : Option Outcome → Value
result_value None = Null
result_value (Some outcome) = Str (outcome_name outcome)

-- a leg's outputs, each under its key
abbrev pub output_pair : Origin → List ℕ → List ℕ × List ℕ → MarkedPair
output_pair here prefix output = pair here (prefix ++ output.0) (Str output.1)

abbrev pub output_pairs : Origin → Leg → List MarkedPair
output_pairs here leg = map (output_pair here leg.prefix) (in_order leg.outputs)

abbrev pub outputs_value : Origin → List Leg → Value
outputs_value here legs = Object (flat_map (output_pairs here) legs)

abbrev pub part_value : Origin → Part → Value
part_value here part = Object (
    pair here (codes "result") (result_value part.result)
    ∷ pair here (codes "outputs") (outputs_value here part.legs)
    ∷ [])

abbrev pub part_pair : Origin → Part → MarkedPair
part_pair here part = pair here part.name (part_value here part)

abbrev pub parts_value : Origin → List Part → Value
parts_value here parts = Object (map (part_pair here) parts)

abbrev pub group_pair : Origin → Group → MarkedPair
group_pair here group = pair here group.name (parts_value here (job_parts group.legs))

abbrev pub groups_value : Origin → List Group → Value
groups_value here groups = Object (map (group_pair here) groups)

abbrev pub variable_pair : Origin → Evaluated → MarkedPair
variable_pair here variable = pair here variable.name variable.value

abbrev pub variables_value : Origin → List Evaluated → Value
variables_value here variables = Object (map (variable_pair here) variables)
