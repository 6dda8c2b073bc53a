-- A plan's stages, jobs and legs stand as they are written.
use Rattle.std.proofs.Common.{◌≡◌, ℕ, zero, suc, ◌+◌, Some, Ok, Err, List, [], ◌∷◌, ◌++◌}
use Rattle.std.proofs.Common.{Bool, true, false, Option, refl, sym, ap, map, ◌∙◌, append_assoc}
use Rattle.std.proofs.Common.{append-nil, subst}
use Rattle.std.specs.Prelude.{Result, codes, decimal, flat_map, unwrap_or, if◌then◌else◌}
use Rattle.std.specs.List.{AllByRecursion}
use Rattle.std.specs.Result.{result_ok}
use Rattle.std.proofs.lemmas.List.{map-append}
use Rattle.pl_base.specs.declared.value.Value.{out-Value}
use Rattle.pl_base.specs.declared.value.Value.TheOpen as layer
use Rattle.pl_base.specs.declared.value.MarkedNode.{MarkedNode}
use Rattle.pl_base.specs.declared.value.MarkedPair.{MarkedPair}
use Rattle.pl_literal.specs.Items.{Opened}
use Rattle.pl_schema_parts.specs.declared.pipeline.JobSpec.{JobSpec}
use Rattle.pl_schema_parts.specs.declared.pipeline.LegSpec.{LegSpec}
use Rattle.pl_schema_parts.specs.declared.pipeline.LegSpec.TheVariants.{One, Parallel, Matrix}
use Rattle.pl_schema_parts.specs.declared.pipeline.Pipeline.{Pipeline}
use Rattle.pl_schema_parts.specs.declared.pipeline.PoolSpec.{PoolSpec}
use Rattle.pl_schema_parts.specs.declared.pipeline.StageSpec.{StageSpec}
use Rattle.pl_schema_parts.specs.declared.pipeline.Variable.{Variable}
use Rattle.pl_schema_parts.specs.Names.{is_taken}
use Rattle.pl_schema_parts.specs.Rows.{in_turn}
use Rattle.pl_depends.specs.Gives.{Fault, each_passes}
use Rattle.pl_reading.specs.Steps.{◌>>=◌}
use Rattle.pl_depends.specs.Graph.{job_waits}
use Rattle.pl_depends.specs.Places.{leg_entries, places_under, stage_entries, Finding}
use Rattle.pl_uses.specs.Pools.{pool_of}
use Rattle.pl_plan.specs.declared.legs.Leg.{Leg}
use Rattle.pl_plan.specs.declared.plan.Plan.{Plan}
use Rattle.pl_plan.specs.declared.plan.PlanJob.{PlanJob}
use Rattle.pl_plan.specs.declared.plan.PlanStep.{PlanStep}
use Rattle.pl_plan.specs.Laws.{heading_of, heading_written, matrix_names, names_written}
use Rattle.pl_plan.specs.Laws.{slice_names}
use Rattle.pl_plan.specs.Laws.{Heading, IsAsWritten, Label}
use Rattle.pl_plan.specs.Legs.{all_legs_judged, first_slices, leg_names, leg_variables, legs_in}
use Rattle.pl_plan.specs.Legs.{legs_judged, legs_of, matrix_leg, matrix_of, named_leg, only_leg}
use Rattle.pl_plan.specs.Legs.{slice}
use Rattle.pl_plan.specs.Plans.{judged, plan_from, plan_job, plan_leg, plan_stages, plan_step}
use Rattle.pl_plan.proofs.LegCounts.{each_alone, first_passes, weaker}

abbrev names_of : List Leg → List (Option (List ℕ))
names_of legs = map (λ leg. leg.name) legs

abbrev keys_of : List MarkedPair → List (Option (List ℕ))
keys_of pairs = map (λ pair. Some pair.key) pairs

-- ---- the legs of one job

named_made : (is_good : Bool) (name : List ℕ) (variables : Result (List Variable) Fault)
    (fault : Fault) (made : Leg) →
    (if is_good then (variables >>= λ found. Ok (named_leg name found)) else Err fault) ≡ Ok made →
    made.name ≡ Some name
named_made true name (Ok found) fault made e =
    let same : named_leg name found ≡ made = cc in ap (λ (leg : Leg). leg.name) (sym same)
named_made true name (Err told) fault made e = cc
named_made false name variables fault made e = cc

name_made : (taken : List ℕ → Bool) (leg : MarkedPair) (made : Leg) →
    matrix_leg taken leg ≡ Ok made → made.name ≡ Some leg.key
unfolding matrix_leg
name_made taken leg made e = named_made _ leg.key (leg_variables leg) _ made e

names_turn : (make : List Leg → MarkedPair → Result Leg Fault) (made : List Leg)
    (pair : MarkedPair) (pairs : List MarkedPair) (legs : List Leg) (r : Result Leg Fault) →
    ((one : Leg) → r ≡ Ok one → one.name ≡ Some pair.key) →
    ((one : Leg) → in_turn make (made ++ one ∷ []) pairs ≡ Ok legs →
    names_of legs ≡ names_of (made ++ one ∷ []) ++ keys_of pairs) →
    (r >>= λ one. in_turn make (made ++ one ∷ []) pairs) ≡ Ok legs →
    names_of legs ≡ names_of made ++ (Some pair.key ∷ keys_of pairs)
names_turn make made pair pairs legs (Ok one) named later e =
    later one e
    ∙ (ap (λ (names : List (Option (List ℕ))). names ++ keys_of pairs)
    (map-append (λ (leg : Leg). leg.name) made (one ∷ []))
    ∙ (append_assoc (names_of made) (one.name ∷ []) (keys_of pairs)
    ∙ ap (λ (name : Option (List ℕ)). names_of made ++ (name ∷ keys_of pairs)) (named one refl)))
names_turn make made pair pairs legs (Err fault) named later e = cc

names_in_turn : (make : List Leg → MarkedPair → Result Leg Fault) →
    ((made : List Leg) (pair : MarkedPair) (one : Leg) → make made pair ≡ Ok one →
    one.name ≡ Some pair.key) → (made : List Leg) (pairs : List MarkedPair) (legs : List Leg) →
    in_turn make made pairs ≡ Ok legs → names_of legs ≡ names_of made ++ keys_of pairs
names_in_turn make named made [] legs e =
    let same : made ≡ legs = cc in
    ap names_of (sym same) ∙ sym (append-nil (names_of made))
names_in_turn make named made (pair ∷ pairs) legs e =
    names_turn make made pair pairs legs (make made pair) (named made pair)
    (λ one. names_in_turn make named (made ++ one ∷ []) pairs legs) e

names_sliced : (count before : ℕ) → names_of (first_slices count before) ≡ slice_names before
names_sliced count zero = refl
names_sliced count (suc before) =
    map-append (λ (leg : Leg). leg.name) (first_slices count before)
    (slice count (before + 1) ∷ [])
    ∙ ap (λ (names : List (Option (List ℕ))). names ++ Some (codes "job_" ++ decimal (before + 1)) ∷
    [])
    (names_sliced count before)

names_matrix : (node : MarkedNode) (opened : Opened) (legs : List Leg) →
    matrix_of node opened ≡ Ok legs → names_of legs ≡ matrix_names opened
names_matrix node (layer.Object []) legs e = cc
names_matrix node (layer.Object (pair ∷ pairs)) legs e =
    names_in_turn (λ made leg. matrix_leg (is_taken (leg_names made)) leg)
    (λ made leg. name_made (is_taken (leg_names made)) leg) [] (pair ∷ pairs) legs e
names_matrix node value legs e = cc

names_legs : (spec : LegSpec) (legs : List Leg) → legs_in spec ≡ Ok legs →
    names_of legs ≡ names_written spec
unfolding legs_in
names_legs One legs e = let same : only_leg ∷ [] ≡ legs = cc in ap names_of (sym same)
names_legs (Parallel count) legs e =
    let same : first_slices count count ≡ legs = cc in
    ap names_of (sym same) ∙ names_sliced count count
names_legs (Matrix node) legs e = names_matrix node (out-Value node.value) legs e

abbrev passed : Result (Unit {0}) Fault
passed = Ok tt

named_by : (r : Result (List Leg) Fault) (names : List (Option (List ℕ))) →
    ((legs : List Leg) → r ≡ Ok legs → names_of legs ≡ names) → (r >>= λ legs. passed) ≡ passed →
    names_of (unwrap_or (result_ok r) []) ≡ names
named_by (Ok legs) names is e = is legs refl
named_by (Err fault) names is e = cc

abbrev AreNamed : JobSpec → Type 0
AreNamed job = names_of (legs_of job.legs) ≡ names_written job.legs

named : (job : JobSpec) → legs_judged job ≡ Ok tt → AreNamed job
named job e = named_by (legs_in job.legs) (names_written job.legs) (names_legs job.legs) e

-- ---- the jobs of a stage

abbrev labels : List PlanJob → List Label
labels jobs = map (λ job. (job.name, job.leg)) jobs

labels_legs : (pool : Option PoolSpec) (depends : List ℕ) (steps : List PlanStep) (job : JobSpec)
    (legs : List Leg) → labels (map (plan_leg pool depends steps job) legs) ≡
    map (λ leg. (job.name, leg)) (names_of legs)
labels_legs pool depends steps job [] = refl
labels_legs pool depends steps job (leg ∷ legs) =
    ap (λ (rest : List Label). (job.name, leg.name) ∷ rest)
    (labels_legs pool depends steps job legs)

labels_jobs : (pipeline : Pipeline) (stage : StageSpec) (find : Finding) (jobs : List JobSpec) →
    AllByRecursion AreNamed jobs → labels (flat_map (plan_job pipeline stage find) jobs) ≡
    flat_map (λ job. map (λ leg. (job.name, leg)) (names_written job.legs)) jobs
labels_jobs pipeline stage find [] all = refl
labels_jobs pipeline stage find (job ∷ jobs) all =
    map-append (λ (made : PlanJob). (made.name, made.leg)) (plan_job pipeline stage find job)
    (flat_map (plan_job pipeline stage find) jobs)
    ∙ (ap (λ (own : List Label). own ++ labels (flat_map (plan_job pipeline stage find) jobs))
    (labels_legs (pool_of pipeline stage job) (job_waits find job.depends)
    (map plan_step job.steps) job (legs_of job.legs)
    ∙ ap (λ (names : List (Option (List ℕ))). map (λ leg. (job.name, leg)) names) all.0)
    ∙ ap (λ (rest : List Label). map (λ leg. (job.name, leg)) (names_written job.legs) ++ rest)
    (labels_jobs pipeline stage find jobs all.1))

-- ---- the stages

abbrev AllNamed : StageSpec → Type 0
AllNamed stage = AllByRecursion AreNamed stage.jobs

stages_written : (pipeline : Pipeline) (find : Finding) (at : ℕ) (stages : List StageSpec) →
    AllByRecursion AllNamed stages →
    map heading_of (plan_stages pipeline find at stages) ≡ map heading_written stages
stages_written pipeline find at [] all = refl
stages_written pipeline find at (stage ∷ stages) all =
    ap (λ (own : List Label). let first : Heading = (stage.name, own) in first ∷
    map heading_of (plan_stages pipeline find (at + 1) stages))
    (labels_jobs pipeline stage (places_under (leg_entries 0 stage.jobs)) stage.jobs all.0)
    ∙ ap (λ (rest : List Heading). heading_written stage ∷ rest)
    (stages_written pipeline find (at + 1) stages all.1)

all_named : (stages : List StageSpec) → judged stages ≡ Ok tt → AllByRecursion AllNamed stages
unfolding judged
all_named stages e =
    weaker (λ stage. each_passes legs_judged stage.jobs ≡ Ok tt) AllNamed
    (λ stage passes. weaker (λ job. legs_judged job ≡ Ok tt) AreNamed named stage.jobs
    (each_alone legs_judged stage.jobs passes)) stages
    (each_alone (λ stage. each_passes legs_judged stage.jobs) stages
    (first_passes (all_legs_judged stages) _ e))

plan_is_as_written : (pipeline : Pipeline) → judged pipeline.stages ≡ Ok tt →
    IsAsWritten pipeline (plan_from pipeline)
unfolding plan_from
plan_is_as_written pipeline e =
    stages_written pipeline (places_under (stage_entries 0 pipeline.stages)) 0 pipeline.stages
    (all_named pipeline.stages e)

pub made_is_as_written : (pipeline : Pipeline) (judges : List StageSpec) (plan : Plan) →
    judges ≡ pipeline.stages → judged judges ≡ Ok tt → plan ≡ plan_from pipeline →
    IsAsWritten pipeline plan
made_is_as_written pipeline judges plan judges_is passes is =
    subst (IsAsWritten pipeline) (sym is)
    (plan_is_as_written pipeline (ap judged (sym judges_is) ∙ passes))
