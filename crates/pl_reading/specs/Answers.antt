-- What a call answers, by what is meant: the value that is meant or the fault that is meant. Want
-- of memory is free.
use Rattle.std.specs.Prelude.{◌≡◌, Result, Ok, Err, Option, Some, None}

-- what is told of a fault is what is meant; of want of memory nothing is told
abbrev pub Tells : {Y F : Type 0} → Option F → Result Y F → Type 0
Tells None meant = Unit {0}
Tells (Some fault) meant = meant ≡ Err fault

-- an answer, its value seen by a view and its fault by what it tells, is what is meant
abbrev pub Gives : {X Y E F : Type 0} → (E → Option F) → (X → Y) → Result X E → Result Y F → Type 0
Gives told view (Ok value) meant = meant ≡ Ok (view value)
Gives told view (Err fault) meant = Tells (told fault) meant
