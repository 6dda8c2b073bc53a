-- What a content means: the JSON value (RFC 8259) that `serde_json` reads.
use Rattle.std.specs.Prelude.{ℕ, List, [], ◌∷◌, Option, Some, None, Result, Ok, Err}
use Rattle.serde_json.specs.Data.{Data}
use Rattle.pl_reading.specs.Answers as answers
use Rattle.pl_reading.specs.Steps.{◌>>=◌}
use Rattle.pl_trees.specs.Trees.{data_in}
use Rattle.pl_bodies.specs.declared.fault.BodyFault.{BodyFault}
use Rattle.pl_bodies.specs.declared.fault.BodyFault.TheVariants.{Bad, Memory}

-- what a fault tells; want of memory tells nothing
abbrev pub told : BodyFault → Option BodyFault
told Bad = Some Bad
told Memory = None

-- a value, seen by a view, is what is meant, and a fault is the one that is meant
abbrev pub Seen : {X Y : Type 0} → (X → Y) → Result X BodyFault → Result Y BodyFault → Type 0
Seen view answer meant = answers.Gives told view answer meant

abbrev pub Gives : {X : Type 0} → Result X BodyFault → Result X BodyFault → Type 0
Gives answer meant = Seen (λ value. value) answer meant

abbrev pub wanted : {X : Type 0} → Option X → Result X BodyFault
wanted None = Err Bad
wanted (Some value) = Ok value

-- no content
abbrev pub none_in : List ℕ → Result (Unit {0}) BodyFault
none_in [] = Ok tt
none_in (byte ∷ more) = Err Bad

-- what a content says as a JSON value
abbrev pub read_by : {X : Type 0} → (Data → Result X BodyFault) → List ℕ → Result X BodyFault
read_by meant content = wanted (data_in content) >>= meant
