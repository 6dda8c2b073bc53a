-- Legs that were judged are as many as are counted.
use Rattle.std.proofs.Common.{◌≡◌, ℕ, zero, suc, ◌+◌, Ok, Err, List, [], ◌∷◌, ◌++◌}
use Rattle.std.proofs.Common.{length}
use Rattle.std.proofs.Common.{refl, sym, ap, ◌∙◌, arith}
use Rattle.std.specs.Prelude.{Result, unwrap_or}
use Rattle.std.specs.List.{AllByRecursion}
use Rattle.std.specs.Result.{result_ok}
use Rattle.std.proofs.lemmas.List.{length_push}
use Rattle.pl_base.specs.declared.value.Value.{out-Value}
use Rattle.pl_base.specs.declared.value.Value.TheOpen as layer
use Rattle.pl_base.specs.declared.value.MarkedNode.{MarkedNode}
use Rattle.pl_literal.specs.Items.{Opened}
use Rattle.pl_schema_parts.specs.declared.pipeline.JobSpec.{JobSpec}
use Rattle.pl_schema_parts.specs.declared.pipeline.LegSpec.{LegSpec}
use Rattle.pl_schema_parts.specs.declared.pipeline.LegSpec.TheVariants.{One, Parallel, Matrix}
use Rattle.pl_schema_parts.specs.declared.pipeline.StageSpec.{StageSpec}
use Rattle.pl_schema_parts.specs.Names.{is_taken}
use Rattle.pl_schema_parts.specs.Rows.{in_turn}
use Rattle.pl_depends.specs.Gives.{Fault, each_passes}
use Rattle.pl_reading.specs.Steps.{◌>>=◌}
use Rattle.pl_depends.specs.Places.{leg_count, pair_count}
use Rattle.pl_plan.specs.declared.legs.Leg.{Leg}
use Rattle.pl_plan.specs.Legs.{only_leg, first_slices, leg_names, matrix_leg, matrix_of, legs_in}
use Rattle.pl_plan.specs.Legs.{legs_of, legs_judged, all_legs_judged}
use Rattle.pl_plan.specs.Plans.{judged}

turn_by : {X Y : Type 0} (make : List Y → X → Result Y Fault) (made : List Y) (xs : List X)
    (ys : List Y) (r : Result Y Fault)
    → ((one : Y) → in_turn make (made ++ one ∷ []) xs ≡ Ok ys →
    length ys ≡ length (made ++ one ∷ []) + length xs)
    → (r >>= λ one. in_turn make (made ++ one ∷ []) xs) ≡ Ok ys
    → length ys ≡ length made + suc (length xs)
turn_by make made xs ys (Ok one) later e =
    let longer : length (made ++ one ∷ []) ≡ length made + 1 = length_push made one in
    let all : length ys ≡ length (made ++ one ∷ []) + length xs = later one e in
    omega arith
turn_by make made xs ys (Err fault) later e = cc

length_in_turn : {X Y : Type 0} (make : List Y → X → Result Y Fault) (made : List Y) (xs : List X)
    (ys : List Y) → in_turn make made xs ≡ Ok ys → length ys ≡ length made + length xs
length_in_turn make made [] ys e =
    let same : made ≡ ys = cc in
    let len : length ys ≡ length made = ap length (sym same) in
    omega arith
length_in_turn make made (x ∷ xs) ys e = turn_by make made xs ys (make made x)
    (λ one. length_in_turn make (made ++ one ∷ []) xs ys) e

length_slices : (count before : ℕ) → length (first_slices count before) ≡ before
length_slices count zero = refl
length_slices count (suc before) =
    let len : length (first_slices count before) ≡ before = length_slices count before in
    length_push (first_slices count before) _ ∙ omega arith

length_matrix : (node : MarkedNode) (opened : Opened) (legs : List Leg) →
    matrix_of node opened ≡ Ok legs → length legs ≡ pair_count opened
length_matrix node (layer.Object []) legs e = cc
length_matrix node (layer.Object (pair ∷ pairs)) legs e =
    length_in_turn (λ made leg. matrix_leg (is_taken (leg_names made)) leg) [] (pair ∷ pairs) legs e
    ∙ omega arith
length_matrix node value legs e = cc

length_legs : (spec : LegSpec) (legs : List Leg) → legs_in spec ≡ Ok legs →
    length legs ≡ leg_count spec
unfolding legs_in
length_legs One legs e =
    let same : only_leg ∷ [] ≡ legs = cc in ap length (sym same)
length_legs (Parallel count) legs e =
    let same : first_slices count count ≡ legs = cc in
    ap length (sym same) ∙ length_slices count count
length_legs (Matrix node) legs e = length_matrix node (out-Value node.value) legs e

abbrev passed : Result (Unit {0}) Fault
passed = Ok tt

counted_by : (r : Result (List Leg) Fault) (count : ℕ) →
    ((legs : List Leg) → r ≡ Ok legs → length legs ≡ count) → (r >>= λ legs. passed) ≡ passed →
    length (unwrap_or (result_ok r) []) ≡ count
counted_by (Ok legs) count len e = len legs refl
counted_by (Err fault) count len e = cc

abbrev pub IsCounted : JobSpec → Type 0
IsCounted job = length (legs_of job.legs) ≡ leg_count job.legs

counted : (job : JobSpec) → legs_judged job ≡ Ok tt → IsCounted job
counted job e = counted_by (legs_in job.legs) (leg_count job.legs) (length_legs job.legs) e

-- ---- what passes together passes alone

pub first_passes : (r : Result (Unit {0}) Fault) (next : Unit {0} → Result (Unit {0}) Fault) →
    (r >>= next) ≡ Ok tt → r ≡ Ok tt
first_passes (Ok done) next e = refl
first_passes (Err fault) next e = cc

rest_passes : (r : Result (Unit {0}) Fault) (next : Unit {0} → Result (Unit {0}) Fault) →
    (r >>= next) ≡ Ok tt → next tt ≡ Ok tt
rest_passes (Ok done) next e = e
rest_passes (Err fault) next e = cc

pub each_alone : {X : Type 0} (judge : X → Result (Unit {0}) Fault) (xs : List X) →
    each_passes judge xs ≡ Ok tt → AllByRecursion (λ x. judge x ≡ Ok tt) xs
each_alone judge [] e = tt
each_alone judge (x ∷ xs) e = (
  first_passes (judge x) (λ done. each_passes judge xs) e,
  each_alone judge xs (rest_passes (judge x) (λ done. each_passes judge xs) e),
)

pub weaker : {X : Type 0} (P Q : X → Type 0) → ((x : X) → P x → Q x) → (xs : List X) →
    AllByRecursion P xs → AllByRecursion Q xs
weaker P Q step [] all = tt
weaker P Q step (x ∷ xs) all = (step x all.0, weaker P Q step xs all.1)

abbrev pub AreCounted : StageSpec → Type 0
AreCounted stage = AllByRecursion IsCounted stage.jobs

pub all_counted : (stages : List StageSpec) → judged stages ≡ Ok tt →
    AllByRecursion AreCounted stages
unfolding judged
all_counted stages e =
    weaker (λ stage. each_passes legs_judged stage.jobs ≡ Ok tt) AreCounted
    (λ stage passes. weaker (λ job. legs_judged job ≡ Ok tt) IsCounted counted stage.jobs
    (each_alone legs_judged stage.jobs passes)) stages
    (each_alone (λ stage. each_passes legs_judged stage.jobs) stages
    (first_passes (all_legs_judged stages) _ e))
