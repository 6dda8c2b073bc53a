-- Steps one after the other: the first complaint ends them.
use Rattle.std.specs.Prelude.{List, [], ◌∷◌, ◌++◌, Result, Ok, Err}
use Rattle.pl_params.specs.declared.fault.Complaint.{Complaint}
use Rattle.pl_reading.specs.Steps.{◌>>=◌}

-- Each item makes one more behind those that are there.
abbrev pub in_turn :
    {X Y : Type 0} → (List Y → X → Result Y Complaint) → List Y → List X → Result (List Y) Complaint
in_turn make made [] = Ok made
in_turn make made (item ∷ items) = make made item >>= λ one. in_turn make (made ++ one ∷ []) items
