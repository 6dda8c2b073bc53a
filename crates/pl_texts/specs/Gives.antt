-- What the functions on texts give, by their definitions.
use Rattle.std.specs.Prelude.{ℕ, ◌<◌, List, length, Result, Option, Some, None}
use Rattle.pl_reading.specs.Answers as answers
use Rattle.pl_texts.specs.declared.fault.TextFault.{TextFault}
use Rattle.pl_texts.specs.declared.fault.TextFault.TheVariants.{Index, TooLong, Memory}

-- what a fault tells; want of memory tells nothing
abbrev pub told : TextFault → Option TextFault
told Memory = None
told fault = Some fault

-- a refusal is the one that is meant, or want of memory
abbrev pub Refuses : {X : Type 0} → TextFault → Result X TextFault → Type 0
Refuses fault meant = answers.Tells (told fault) meant

-- an answer is what is meant, or want of memory
abbrev pub Gives : {X : Type 0} → Result X TextFault → Result X TextFault → Type 0
Gives answer meant = answers.Gives told (λ value. value) answer meant

-- what was to be made is past the bound, or memory is wanting
abbrev pub IsPast : TextFault → List ℕ → Type 0
IsPast TooLong text = 65536 < length text
IsPast Memory text = Unit {0}
IsPast Index text = ⊥
