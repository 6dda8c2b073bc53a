-- The legs into which a job is cut (Microsoft Learn, "YAML schema reference", jobs.job.strategy;
-- "Jobs", Multi-job configuration and Slicing; "Predefined variables", System.JobPositionInPhase
-- and System.TotalJobsInPhase).
use Rattle.std.specs.Prelude.{◌≡◌, ℕ, zero, suc, ◌+◌, Bool, false, ◌&&◌, not, nat_le, List, []}
use Rattle.std.specs.Prelude.{◌∷◌, ◌++◌, length, map, codes, decimal, Option, Some, None, Result}
use Rattle.std.specs.Prelude.{Ok, Err, unwrap_or, if◌then◌else◌}
use Rattle.std.specs.Char.{is_ascii_alphabetic}
use Rattle.std.specs.List.{list_all, filter_map}
use Rattle.std.specs.Result.{result_ok}
use Rattle.pl_base.specs.declared.value.Value.{out-Value}
use Rattle.pl_base.specs.declared.value.Value.TheOpen as layer
use Rattle.pl_base.specs.declared.value.MarkedNode.{MarkedNode}
use Rattle.pl_base.specs.declared.value.MarkedPair.{MarkedPair}
use Rattle.pl_expr.specs.Grammar.{is_name_byte}
use Rattle.pl_literal.specs.Items.{Opened}
use Rattle.pl_schema_parts.specs.declared.pipeline.JobSpec.{JobSpec}
use Rattle.pl_schema_parts.specs.declared.pipeline.LegSpec.{LegSpec}
use Rattle.pl_schema_parts.specs.declared.pipeline.LegSpec.TheVariants.{One, Parallel, Matrix}
use Rattle.pl_schema_parts.specs.declared.pipeline.StageSpec.{StageSpec}
use Rattle.pl_schema_parts.specs.declared.pipeline.Variable.{Variable}
use Rattle.pl_schema_parts.specs.Names.{is_taken}
use Rattle.pl_schema_parts.specs.Variables.{variable_in}
use Rattle.pl_depends.specs.declared.fault.PlanCode.TheVariants.{BadLeg}
use Rattle.pl_plan.specs.declared.legs.KeptLegs.{KeptLegs}
use Rattle.pl_plan.specs.declared.legs.KeptLegs.TheVariants as kept
use Rattle.pl_plan.specs.declared.legs.Leg.{Leg}
use Rattle.pl_schema_parts.specs.Rows.{in_turn}
use Rattle.pl_depends.specs.Gives.{Fault, each_passes}
use Rattle.pl_reading.specs.Steps.{◌>>=◌}

-- a job that isn't cut
abbrev pub only_leg : Leg
only_leg = record { name = None; variables = [] }

-- ---- slices: their names are this project's own, and each is told which one it is, from 1 on

abbrev pub told : List ℕ → ℕ → Variable
told name number = record { name = name; value = decimal number; late = None }

abbrev pub slice : ℕ → ℕ → Leg
slice count number = record {
  name = Some (codes "job_" ++ decimal number);
  variables = told (codes "System.JobPositionInPhase") number
      ∷ told (codes "System.TotalJobsInPhase") count ∷ [];
}

-- the first ones, of so many
abbrev pub first_slices : ℕ → ℕ → List Leg
first_slices count zero = []
first_slices count (suc before) = first_slices count before ++ slice count (before + 1) ∷ []

-- ---- a matrix: a mapping of legs, each of which is a mapping of variables

abbrev pub begins_with_letter : List ℕ → Bool
begins_with_letter [] = false
begins_with_letter (first ∷ bytes) = is_ascii_alphabetic first

-- a letter, then letters, digits and `_`, at most 100 of them
abbrev pub is_leg_name : List ℕ → Bool
is_leg_name text = begins_with_letter text
    && (list_all is_name_byte text && nat_le (length text) 100)

-- whatever is wrong with a leg is told at its name
abbrev pub or_bad_leg : {X : Type 0} → MarkedPair → Option X → Result X Fault
or_bad_leg leg None = Err (BadLeg, leg.key_origin.source)
or_bad_leg leg (Some value) = Ok value

-- a variable is a scalar
abbrev pub leg_variable : MarkedPair → MarkedPair → Result Variable Fault
leg_variable leg pair = or_bad_leg leg (result_ok (variable_in pair.key pair.item))

-- an empty scalar is an empty mapping
abbrev pub leg_pairs : Opened → Option (List MarkedPair)
leg_pairs (layer.Object pairs) = Some pairs
leg_pairs layer.Null = Some []
leg_pairs (layer.Str []) = Some []
leg_pairs value = None

unfoldable pub leg_variables : MarkedPair → Result (List Variable) Fault
leg_variables leg = or_bad_leg leg (leg_pairs (out-Value leg.item.value))
    >>= in_turn (λ before pair. leg_variable leg pair) []

abbrev pub named_leg : List ℕ → List Variable → Leg
named_leg name variables = record { name = Some name; variables = variables }

-- a name is a leg's own
unfoldable pub matrix_leg : (List ℕ → Bool) → MarkedPair → Result Leg Fault
matrix_leg taken leg =
    if is_leg_name leg.key && not (taken leg.key)
    then (leg_variables leg >>= λ variables. Ok (named_leg leg.key variables))
    else or_bad_leg leg None

abbrev pub leg_names : List Leg → List (List ℕ)
leg_names legs = filter_map (λ leg. leg.name) legs

-- in the order of the matrix, which has a leg
abbrev pub matrix_legs : MarkedNode → List MarkedPair → Result (List Leg) Fault
matrix_legs node [] = Err (BadLeg, node.origin.source)
matrix_legs node pairs =
    in_turn (λ legs leg. matrix_leg (is_taken (leg_names legs)) leg) [] pairs

abbrev pub matrix_of : MarkedNode → Opened → Result (List Leg) Fault
matrix_of node (layer.Object pairs) = matrix_legs node pairs
matrix_of node value = Err (BadLeg, node.origin.source)

-- ---- the legs of a job

unfoldable pub legs_in : LegSpec → Result (List Leg) Fault
legs_in One = Ok (only_leg ∷ [])
legs_in (Parallel count) = Ok (first_slices count count)
legs_in (Matrix node) = matrix_of node (out-Value node.value)

-- once they were judged
abbrev pub legs_of : LegSpec → List Leg
legs_of legs = unwrap_or (result_ok (legs_in legs)) []

abbrev pub legs_judged : JobSpec → Result (Unit {0}) Fault
legs_judged job = legs_in job.legs >>= λ legs. Ok tt

abbrev pub all_legs_judged : List StageSpec → Result (Unit {0}) Fault
all_legs_judged stages = each_passes (λ stage. each_passes legs_judged stage.jobs) stages

-- ---- what is kept of legs between being judged and being planned

abbrev pub all_legs : KeptLegs → List Leg
all_legs kept.One = only_leg ∷ []
all_legs (kept.Slices count) = first_slices count count
all_legs (kept.Matrix legs) = legs

abbrev pub legs_written : StageSpec → List (List Leg)
legs_written stage = map (λ job. legs_of job.legs) stage.jobs

abbrev pub AreLegsOf : List JobSpec → List KeptLegs → Type 0
AreLegsOf jobs legs = map all_legs legs ≡ map (λ job. legs_of job.legs) jobs

abbrev pub AreLegsIn : List StageSpec → List (List KeptLegs) → Type 0
AreLegsIn stages legs = map (map all_legs) legs ≡ map legs_written stages
