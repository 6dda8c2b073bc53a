-- What a call judges, by what is meant.
use Rattle.std.specs.Prelude.{◌≡◌, List, [], ◌∷◌, Option, Some, None, Result, Ok, Err}
use Rattle.pl_base.specs.declared.place.Place.{Place}
use Rattle.pl_schema_parts.specs.declared.fault.PlacedFault.{PlacedFault}
use Rattle.pl_schema_parts.specs.declared.fault.PlacedFault.TheVariants.{Refused, Memory}
use Rattle.pl_depends.specs.declared.fault.PlanCode.{PlanCode}
use Rattle.pl_reading.specs.Steps.{◌>>=◌}

-- what is wrong, and where
abbrev pub Fault : Type 0
Fault = PlanCode × Place

-- a refusal is that fault
abbrev pub Faults : PlacedFault PlanCode → Option Fault → Type 0
Faults Memory fault = Unit {0}
Faults (Refused code place) fault = fault ≡ Some (code, place)

-- a refusal of whose fault a fact holds
abbrev pub FaultIs : PlacedFault PlanCode → (Fault → Type 0) → Type 0
FaultIs Memory is_meant = Unit {0}
FaultIs (Refused code place) is_meant = is_meant (code, place)

-- a refusal is the fault that there is, and Ok says that there is none; want of memory is free
abbrev pub Judges : {U : Type 0} → Result U (PlacedFault PlanCode) → (Option Fault → Type 0) →
    Type 0
Judges (Ok done) there_is = there_is None
Judges (Err Memory) there_is = Unit {0}
Judges (Err (Refused code place)) there_is = there_is (Some (code, place))

-- an answer of which a fact holds; want of memory is free
abbrev pub Means : {X : Type 0} → Result X (PlacedFault PlanCode) → (Result X Fault → Type 0) →
    Type 0
Means (Ok value) is_meant = is_meant (Ok value)
Means (Err Memory) is_meant = Unit {0}
Means (Err (Refused code place)) is_meant = is_meant (Err (code, place))

-- ---- what is meant, one after the other: the first fault counts

-- each is judged by itself
abbrev pub each_passes : {X : Type 0} → (X → Result (Unit {0}) Fault) → List X →
    Result (Unit {0}) Fault
each_passes judge [] = Ok tt
each_passes judge (item ∷ items) = judge item >>= λ done. each_passes judge items
