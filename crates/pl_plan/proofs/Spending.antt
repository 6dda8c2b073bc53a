-- Places of which so many at most may stand there, one list behind the other.
use Rattle.std.proofs.Common.{◌≡◌, ℕ, zero, suc, ◌+◌, ◌-◌, ◌<◌, ◌≤◌, Some, None, Ok, Err}
use Rattle.std.proofs.Common.{List, [], ◌∷◌, ◌++◌, length, get_or, drop, map, refl, sym, ap, subst}
use Rattle.std.proofs.Common.{◌∙◌, arith}
use Rattle.std.specs.Prelude.{Result, flat_map, replicate, slice_get}
use Rattle.std.specs.Option.{option_map}
use Rattle.std.proofs.lemmas.List.{at_drop_more, at_drop_all, length-map, length-replicate}
use Rattle.std.proofs.lemmas.List.{get_or-replicate}
use Rattle.std.proofs.lemmas.Option.{slice_get-map, slice_get-get_or, slice_get_past}
use Rattle.pl_base.specs.declared.place.Place.{Place}
use Rattle.pl_schema_parts.specs.declared.pipeline.JobSpec.{JobSpec}
use Rattle.pl_schema_parts.specs.declared.pipeline.StageSpec.{StageSpec}
use Rattle.pl_depends.specs.declared.fault.PlanCode.{PlanCode}
use Rattle.pl_schema_parts.specs.declared.fault.PlacedFault.{PlacedFault}
use Rattle.pl_schema_parts.specs.declared.fault.PlacedFault.TheVariants.{Refused, Memory}
use Rattle.pl_schema_parts.specs.Gives.{Refuses}
use Rattle.pl_depends.specs.Gives.{Fault}
use Rattle.pl_reading.specs.Steps.{◌>>=◌}
use Rattle.pl_plan.specs.Limits.{at_most, left_by, left_over, seats_in}

none_spent : (code : PlanCode) (left : ℕ) → left_over code left [] ≡ Ok left
none_spent code left =
    let e : left - 0 ≡ left = omega arith in
    ap (λ (n : ℕ). left_by code n None) e

one_spent : (code : PlanCode) (left : ℕ) (place : Place) (places : List Place) →
    left_over code (suc left) (place ∷ places) ≡ left_over code left places
one_spent code left place places =
    let e : suc left - suc (length places) ≡ left - length places = omega arith in
    ap (λ (n : ℕ). left_by code n (slice_get places left)) e

pub both_spent : (code : PlanCode) (left : ℕ) (places more : List Place) →
    left_over code left (places ++ more) ≡
    (left_over code left places >>= λ rest. left_over code rest more)
both_spent code left [] more =
    ap (λ r. r >>= λ rest. left_over code rest more) (sym (none_spent code left))
both_spent code zero (place ∷ places) more = refl
both_spent code (suc left) (place ∷ places) more =
    one_spent code left place (places ++ more) ∙ both_spent code left places more
    ∙ ap (λ r. r >>= λ rest. left_over code rest more) (sym (one_spent code left place places))

-- ---- a loop

front : {X : Type 0} (code : PlanCode) (seats : X → List Place) (left : ℕ) (xs : List X) (i : ℕ)
    (x : X) → i < length xs → x ≡ get_or xs i x
    → left_over code left (flat_map seats (drop i xs)) ≡
    (left_over code left (seats x) >>= λ rest.
    left_over code rest (flat_map seats (drop (i + 1) xs)))
front code seats left xs i x within is =
    at_drop_more (λ rest. left_over code left (flat_map seats rest)) xs i x within
    ∙ ap (λ first. left_over code left (seats first ++ flat_map seats (drop (i + 1) xs))) (sym is)
    ∙ both_spent code left (seats x) (flat_map seats (drop (i + 1) xs))

pub goes_on : {X : Type 0} (code : PlanCode) (seats : X → List Place) (whole : Result ℕ Fault)
    (left rest : ℕ) (xs : List X) (i : ℕ) (x : X)
    → whole ≡ left_over code left (flat_map seats (drop i xs)) → i < length xs → x ≡ get_or xs i x
    → left_over code left (seats x) ≡ Ok rest
    → whole ≡ left_over code rest (flat_map seats (drop (i + 1) xs))
goes_on code seats whole left rest xs i x so_far within is spent =
    so_far ∙ front code seats left xs i x within is
    ∙ ap (λ r. r >>= λ rest. left_over code rest (flat_map seats (drop (i + 1) xs))) spent

pub stops : {X : Type 0} (code : PlanCode) (seats : X → List Place) (whole : Result ℕ Fault)
    (left : ℕ) (xs : List X) (i : ℕ) (x : X) (fault : PlacedFault PlanCode)
    → whole ≡ left_over code left (flat_map seats (drop i xs)) → i < length xs → x ≡ get_or xs i x
    → Refuses fault (left_over code left (seats x)) → Refuses fault whole
stops code seats whole left xs i x Memory so_far within is refused = tt
stops code seats whole left xs i x (Refused found place) so_far within is refused =
    so_far ∙ front code seats left xs i x within is
    ∙ ap (λ r. r >>= λ rest. left_over code rest (flat_map seats (drop (i + 1) xs))) refused

pub ends : {X : Type 0} (code : PlanCode) (seats : X → List Place) (whole : Result ℕ Fault)
    (left : ℕ) (xs : List X) (i : ℕ) → whole ≡ left_over code left (flat_map seats (drop i xs))
    → length xs ≤ i → whole ≡ Ok left
ends code seats whole left xs i so_far past =
    so_far ∙ at_drop_all (λ rest. left_over code left (flat_map seats rest)) xs i past
    ∙ none_spent code left

-- ---- one job

pub legs_fit : (code : PlanCode) (left count : ℕ) (place : Place) → count ≤ left →
    left_over code left (replicate count place) ≡ Ok (left - count)
legs_fit code left count place fits =
    ap (λ o. left_by code (left - length (replicate count place)) o)
    (slice_get_past (replicate count place) left (omega (arith, length-replicate count place)))
    ∙ ap (λ (n : ℕ). left_by code (left - n) None) (length-replicate count place)

pub legs_pass : (code : PlanCode) (left count : ℕ) (place : Place) → left < count →
    left_over code left (replicate count place) ≡ Err (code, place)
legs_pass code left count place past =
    ap (λ o. left_by code (left - length (replicate count place)) o)
    (slice_get-get_or (replicate count place) left place
    (omega (arith, length-replicate count place))
    ∙ ap (λ (p : Place). Some p) (get_or-replicate count left place place past))

pub seats_fit : {X : Type 0} (code : PlanCode) (seat : X → Place) (left : ℕ) (xs : List X) →
    slice_get xs left ≡ None → left_over code left (map seat xs) ≡ Ok (left - length xs)
seats_fit code seat left xs none =
    ap (λ o. left_by code (left - length (map seat xs)) o)
    (slice_get-map seat xs left ∙ ap (option_map seat) none)
    ∙ ap (λ (n : ℕ). left_by code (left - n) None) (length-map xs seat)

pub seats_pass : {X : Type 0} (code : PlanCode) (seat : X → Place) (left : ℕ) (xs : List X)
    (x : X) → slice_get xs left ≡ Some x → left_over code left (map seat xs) ≡ Err (code, seat x)
seats_pass code seat left xs x there =
    ap (λ o. left_by code (left - length (map seat xs)) o)
    (slice_get-map seat xs left ∙ ap (option_map seat) there)

-- ---- a loop over stages

pub goes_in : (code : PlanCode) (seats : JobSpec → List Place) (most left rest : ℕ)
    (stages : List StageSpec) (i : ℕ) (stage : StageSpec) (jobs : List JobSpec)
    → left_over code most (seats_in seats stages) ≡
    left_over code left (seats_in seats (drop i stages))
    → i < length stages → stage ≡ get_or stages i stage → jobs ≡ stage.jobs
    → left_over code left (flat_map seats jobs) ≡ Ok rest
    → left_over code most (seats_in seats stages) ≡
    left_over code rest (seats_in seats (drop (i + 1) stages))
goes_in code seats most left rest stages i stage jobs so_far within is same spent =
    goes_on code (λ (s : StageSpec). flat_map seats s.jobs)
    (left_over code most (seats_in seats stages)) left rest stages i stage so_far within is
    (ap (λ js. left_over code left (flat_map seats js)) (sym same) ∙ spent)

refused_on : (fault : PlacedFault PlanCode) (whole : Result ℕ Fault) → Refuses fault whole →
    Refuses {X = Unit {0}} fault (whole >>= λ left. Ok tt)
refused_on Memory whole refused = tt
refused_on (Refused code place) whole refused = ap (λ r. r >>= λ left. Ok tt) refused

pub stops_in : (code : PlanCode) (seats : JobSpec → List Place) (most left : ℕ)
    (stages : List StageSpec) (i : ℕ) (stage : StageSpec) (jobs : List JobSpec)
    (fault : PlacedFault PlanCode)
    → left_over code most (seats_in seats stages) ≡
    left_over code left (seats_in seats (drop i stages))
    → i < length stages → stage ≡ get_or stages i stage → jobs ≡ stage.jobs
    → Refuses fault (left_over code left (flat_map seats jobs))
    → Refuses fault (at_most code most (seats_in seats stages))
stops_in code seats most left stages i stage jobs fault so_far within is same refused =
    let P : List JobSpec → Type 0 = λ js. Refuses fault (left_over code left (flat_map seats js)) in
    refused_on fault (left_over code most (seats_in seats stages))
    (stops code (λ (s : StageSpec). flat_map seats s.jobs)
    (left_over code most (seats_in seats stages)) left stages i stage fault so_far within is
    (subst P same refused))
