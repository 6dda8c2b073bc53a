-- What the functions give, by what reading from left to right gives: a value, or the first fault.
use Rattle.std.specs.Prelude.{Result, Option, Some, None}
use Rattle.pl_reading.specs.Answers as answers
use Rattle.pl_line.specs.declared.line_fault.Fault.{Fault}
use Rattle.pl_line.specs.declared.line_fault.ReadFault.{ReadFault}
use Rattle.pl_line.specs.declared.line_fault.ReadFault.TheVariants as faults

-- what a fault tells; want of memory tells nothing
abbrev pub told : ReadFault → Option Fault
told faults.Memory = None
told (faults.Refused fault) = Some fault

-- what a function answered, seen by a view, is what reading gives, unless memory ran out
abbrev pub Fails : {Y : Type 0} → ReadFault → Result Y Fault → Type 0
Fails e read = answers.Tells (told e) read

abbrev pub Gives : {X Y : Type 0} → (X → Y) → Result X ReadFault → Result Y Fault → Type 0
Gives view answer read = answers.Gives told view answer read
