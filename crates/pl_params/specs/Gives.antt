-- What a call gives, by what is meant.
use Rattle.std.specs.Prelude.{Result, Option, Some, None}
use Rattle.pl_reading.specs.Answers as answers
use Rattle.pl_params.specs.declared.fault.Complaint.{Complaint}
use Rattle.pl_params.specs.declared.fault.ParamFault.{ParamFault}
use Rattle.pl_params.specs.declared.fault.ParamFault.TheVariants.{Refused, Memory}

-- what a refusal tells; want of memory tells nothing
abbrev pub told : ParamFault → Option Complaint
told Memory = None
told (Refused complaint) = Some complaint

-- a refusal is the complaint that is meant, and want of memory is free
abbrev pub Refuses : {X : Type 0} → ParamFault → Result X Complaint → Type 0
Refuses fault meant = answers.Tells (told fault) meant

-- a value is what is meant
abbrev pub Gives : {X : Type 0} → Result X ParamFault → Result X Complaint → Type 0
Gives answer meant = answers.Gives told (λ value. value) answer meant
