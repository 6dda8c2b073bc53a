-- What an evaluating function gives, by what is meant.
use Rattle.std.specs.Prelude.{Result, Option, Some, None}
use Rattle.pl_reading.specs.Answers as answers
use Rattle.pl_texts.specs.declared.fault.TextFault.{TextFault}
use Rattle.pl_texts.specs.declared.fault.TextFault.TheVariants as text
use Rattle.pl_eval.specs.declared.fault.EvalCode.{EvalCode}
use Rattle.pl_eval.specs.declared.fault.EvalFault.{EvalFault}
use Rattle.pl_eval.specs.declared.fault.EvalFault.TheVariants.{Refused, Memory}
use Rattle.pl_eval.specs.Texts.{code_of}

-- what a refusal tells; want of memory tells nothing
abbrev pub told : EvalFault → Option EvalCode
told Memory = None
told (Refused code) = Some code

-- a fault is the code that is meant, or want of memory
abbrev pub Refuses : {X : Type 0} → EvalFault → Result X EvalCode → Type 0
Refuses fault meant = answers.Tells (told fault) meant

-- a value is what is meant
abbrev pub Gives : {X : Type 0} → Result X EvalFault → Result X EvalCode → Type 0
Gives answer meant = answers.Gives told (λ value. value) answer meant

-- a fault of a function on texts, as a fault of the evaluation
abbrev pub fault_of : TextFault → EvalFault
fault_of text.Memory = Memory
fault_of fault = Refused (code_of fault)
