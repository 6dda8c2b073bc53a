-- Names, and the places in a list at which those who have them stand.
use Rattle.std.specs.Prelude.{ℕ, zero, suc, ◌+◌, List, [], ◌∷◌, ◌++◌, length, Option, Some}
use Rattle.std.specs.Prelude.{None, Bool, is_some, if◌then◌else◌}
use Rattle.std.specs.Option.{option_or}
use Rattle.std.specs.BTreeMap.{get}
use Rattle.std.specs.Ordering.{nat_cmp}
use Rattle.std.specs.Cmp.Lexicographic.{slice_cmp}
use Rattle.pl_base.specs.Folding.{folded}
use Rattle.pl_base.specs.declared.value.Value.{out-Value}
use Rattle.pl_base.specs.declared.value.Value.TheOpen as layer
use Rattle.pl_literal.specs.Booleans.{spells}
use Rattle.pl_literal.specs.Items.{Opened}
use Rattle.pl_schema_parts.specs.declared.pipeline.JobSpec.{JobSpec}
use Rattle.pl_schema_parts.specs.declared.pipeline.LegSpec.{LegSpec}
use Rattle.pl_schema_parts.specs.declared.pipeline.LegSpec.TheVariants.{One, Parallel, Matrix}
use Rattle.pl_schema_parts.specs.declared.pipeline.StageSpec.{StageSpec}
use Rattle.pl_depends.specs.declared.places.Places.{Places}

-- where those who have a name stand; None where no one has it
abbrev pub Finding : Type 0
Finding = List ℕ → Option (List ℕ)

abbrev pub nowhere : Finding
nowhere asked = None

-- a name and its places
abbrev pub Entry : Type 0
Entry = List ℕ × List ℕ

-- the places of one name, if it is the asked one, the case of ASCII's letters aside
abbrev pub places_of_one : List ℕ → List ℕ → Finding
places_of_one name places asked = if spells asked name then Some places else None

-- the places under a name; the first one who has it counts
abbrev pub places_under : List Entry → Finding
places_under [] asked = None
places_under (entry ∷ entries) asked =
    option_or (places_of_one entry.0 entry.1 asked) (places_under entries asked)

-- one more name, behind those that are there
abbrev pub also : Finding → List ℕ → List ℕ → Finding
also find name places asked = option_or (find asked) (places_of_one name places asked)

-- what a map of names tells
abbrev pub under : Places → Finding
under places asked = get (slice_cmp nat_cmp) places.by_name (folded asked)

abbrev pub knows : Places → List ℕ → Bool
knows places asked = is_some (under places asked)

-- ---- stages, and jobs, from a place on

abbrev pub stage_entries : ℕ → List StageSpec → List Entry
stage_entries at [] = []
stage_entries at (stage ∷ stages) = (stage.name, at ∷ []) ∷ stage_entries (at + 1) stages

abbrev pub job_entries : ℕ → List JobSpec → List Entry
job_entries at [] = []
job_entries at (job ∷ jobs) = (job.name, at ∷ []) ∷ job_entries (at + 1) jobs

-- ---- legs: a job of a plan is a leg, and a job that isn't cut is one leg

abbrev pub pair_count : Opened → ℕ
pair_count (layer.Object pairs) = length pairs
pair_count value = 0

-- into how many legs a job is cut
abbrev pub leg_count : LegSpec → ℕ
leg_count One = 1
leg_count (Parallel count) = count
leg_count (Matrix node) = pair_count (out-Value node.value)

-- so many places, from the first one on
abbrev pub places_from : ℕ → ℕ → List ℕ
places_from first zero = []
places_from first (suc count) = places_from first count ++ (first + count) ∷ []

-- each job by the places of its legs in the stage
abbrev pub leg_entries : ℕ → List JobSpec → List Entry
leg_entries first [] = []
leg_entries first (job ∷ jobs) = (job.name, places_from first (leg_count job.legs))
    ∷ leg_entries (first + leg_count job.legs) jobs
