-- One leg of a matrix more.
use Rattle.std.proofs.Common.{◌≡◌, ℕ, ◌+◌, Bool, true, false, ◌||◌, cond, Some, None, Ok, Err}
use Rattle.std.proofs.Common.{Option, List}
use Rattle.std.proofs.Common.{[], ◌∷◌, ◌++◌, ◌<◌, length, get_or, drop, refl, sym, ap, ◌∙◌}
use Rattle.std.specs.Prelude.{Result, is_some}
use Rattle.std.specs.List.{cons_option, list_any}
use Rattle.std.specs.Option.{option_or}
use Rattle.std.proofs.lemmas.List.Elements.{filter_map-append}
use Rattle.std.proofs.lemmas.List.Folds.{list_any-append}
use Rattle.std.proofs.lemmas.List.{at_drop_more}
use Rattle.pl_base.specs.declared.value.MarkedPair.{MarkedPair}
use Rattle.pl_literal.specs.Booleans.{spells}
use Rattle.pl_schema_parts.specs.declared.pipeline.Variable.{Variable}
use Rattle.pl_schema_parts.specs.Names.{is_taken}
use Rattle.pl_schema_parts.specs.Rows.{in_turn}
use Rattle.pl_depends.specs.Gives.{Fault}
use Rattle.pl_reading.specs.Steps.{◌>>=◌}
use Rattle.pl_depends.specs.Places.{Finding, also, nowhere}
use Rattle.pl_plan.specs.declared.legs.Leg.{Leg}
use Rattle.pl_plan.specs.Legs.{leg_names, leg_variables, matrix_leg, named_leg, or_bad_leg}

either : (found : Option (List ℕ)) (here : List ℕ) (same : Bool) →
    is_some (option_or found (cond same (Some here) None)) ≡ (is_some found || (same || false))
either None here true = refl
either None here false = refl
either (Some places) here same = refl

abbrev known_by : Finding → List ℕ → Bool
known_by find asked = is_some (find asked)

pub no_legs : (find : Finding) (made : List Leg) → find ≡ nowhere → made ≡ [] →
    known_by find ≡ is_taken (leg_names made)
no_legs find made none empty =
    ap known_by none ∙ ap (λ (legs : List Leg). is_taken (leg_names legs)) (sym empty)

-- a leg is made beside those before it
abbrev turn : List Leg → MarkedPair → Result Leg Fault
turn made leg = matrix_leg (is_taken (leg_names made)) leg

pub leg_turn : (taken : List ℕ → Bool) (made : List Leg) (legs : List MarkedPair) (i : ℕ)
    (pair : MarkedPair) (leg : Leg) → taken ≡ is_taken (leg_names made) → i < length legs →
    pair ≡ get_or legs i pair → matrix_leg taken pair ≡ Ok leg →
    in_turn turn made (drop i legs) ≡ in_turn turn (made ++ leg ∷ []) (drop (i + 1) legs)
leg_turn taken made legs i pair leg same within is gives =
    at_drop_more (in_turn turn made) legs i pair within
    ∙ ap (λ r. r >>= λ one. in_turn turn (made ++ one ∷ []) (drop (i + 1) legs))
    (ap (λ (t : List ℕ → Bool). matrix_leg t (get_or legs i pair)) (sym same)
    ∙ ap (matrix_leg taken) (sym is) ∙ gives)

named_by : (pair : MarkedPair) (good : Bool) (variables : Result (List Variable) Fault) (leg : Leg)
    → cond good (variables >>= λ vs. Ok (named_leg pair.key vs)) (or_bad_leg pair None) ≡ Ok leg
    → leg.name ≡ Some pair.key
named_by pair true (Ok variables) leg e =
    let same : named_leg pair.key variables ≡ leg = cc in
    ap (λ (l : Leg). l.name) (sym same)
named_by pair true (Err fault) leg e = cc
named_by pair false variables leg e = cc

pub leg_named : (taken : List ℕ → Bool) (pair : MarkedPair) (leg : Leg) →
    matrix_leg taken pair ≡ Ok leg → leg.name ≡ Some pair.key
unfolding matrix_leg
leg_named taken pair leg e = named_by pair _ (leg_variables pair) leg e

-- the names of the legs, one leg more
pub leg_more : (old new : Finding) (legs : List Leg) (leg : Leg) (name here : List ℕ)
    → leg.name ≡ Some name → new ≡ also old name here
    → known_by old ≡ is_taken (leg_names legs)
    → known_by new ≡ is_taken (leg_names (legs ++ leg ∷ []))
leg_more old new legs leg name here named added so_far =
    ap known_by added
    ∙ (λ i asked. (either (old asked) here (spells asked name)
    ∙ ap (λ (taken : List ℕ → Bool). taken asked || (spells asked name || false)) so_far
    ∙ sym (list_any-append (spells asked) (leg_names legs) (name ∷ []))
    ∙ ap (λ names. list_any (spells asked) names)
    (sym (filter_map-append (λ (l : Leg). l.name) legs (leg ∷ [])
    ∙ ap (λ more. leg_names legs ++ more) (ap (λ o. cons_option o []) named)))) i)
