-- What a call gives, by what is meant.
use Rattle.std.specs.Prelude.{Result, Option, Some, None}
use Rattle.pl_reading.specs.Answers as answers
use Rattle.pl_directives.specs.declared.fault.ExpandFault.{ExpandFault}
use Rattle.pl_directives.specs.declared.fault.ExpandFault.TheVariants.{Refused, Memory}

-- what a refusal tells; want of memory tells nothing
abbrev pub told : ExpandFault → Option ExpandFault
told Memory = None
told (Refused complaint) = Some (Refused complaint)

-- a refusal is the one that is meant, and want of memory is free
abbrev pub Refuses : {X : Type 0} → ExpandFault → Result X ExpandFault → Type 0
Refuses fault meant = answers.Tells (told fault) meant

-- a value is what is meant
abbrev pub Gives : {X : Type 0} → Result X ExpandFault → Result X ExpandFault → Type 0
Gives answer meant = answers.Gives told (λ value. value) answer meant
