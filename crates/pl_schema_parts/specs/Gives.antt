-- What a call gives, by what is meant.
use Rattle.std.specs.Prelude.{◌≡◌, Result, Ok, Err, Option, Some, None}
use Rattle.pl_reading.specs.Answers as answers
use Rattle.pl_base.specs.declared.place.Place.{Place}
use Rattle.pl_schema_parts.specs.declared.fault.PlacedFault.{PlacedFault}
use Rattle.pl_schema_parts.specs.declared.fault.PlacedFault.TheVariants.{Refused, Memory}
use Rattle.pl_schema_parts.specs.declared.fault.SchemaCode.{SchemaCode}

-- what is wrong, and where
abbrev pub Fault : Type 0
Fault = SchemaCode × Place

-- what a refusal tells; want of memory tells nothing
abbrev pub told : {C : Type 0} → PlacedFault C → Option (C × Place)
told Memory = None
told (Refused code place) = Some (code, place)

-- a refusal is the fault that is meant, and want of memory is free
abbrev pub Refuses : {C X : Type 0} → PlacedFault C → Result X (C × Place) → Type 0
Refuses fault meant = answers.Tells (told fault) meant

-- a value is what is meant
abbrev pub Gives : {C X : Type 0} → Result X (PlacedFault C) → Result X (C × Place) → Type 0
Gives answer meant = answers.Gives told (λ value. value) answer meant

-- what was changed is what is meant
abbrev pub Makes : {C X U : Type 0} → Result U (PlacedFault C) → X → Result X (C × Place) → Type 0
Makes (Ok done) new meant = meant ≡ Ok new
Makes (Err fault) new meant = Refuses fault meant

-- a refusal with this code at this place
abbrev pub IsRefusal : {C : Type 0} → PlacedFault C → C → Place → Type 0
IsRefusal Memory code place = Unit {0}
IsRefusal (Refused found at) code place = (found ≡ code) × (at ≡ place)
