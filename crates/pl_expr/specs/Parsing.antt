-- What the parser's functions give, by what the grammar's definitions give.
use Rattle.std.specs.Prelude.{Result, Option, Some, None}
use Rattle.pl_reading.specs.Answers as answers
use Rattle.pl_expr.specs.declared.expr.Expr.{Expr}
use Rattle.pl_expr.specs.declared.fault.ExprFault.{ExprFault}
use Rattle.pl_expr.specs.declared.fault.ExprFault.TheVariants as faults
use Rattle.pl_expr.specs.declared.stop.Stop.{Stop}
use Rattle.pl_expr.specs.declared.stop.Stop.TheVariants as stops
use Rattle.pl_expr.specs.Grammar.{Fault}

-- what a stop tells; want of memory tells nothing
abbrev pub told : Stop → Option Fault
told stops.Memory = None
told (stops.Fault code left) = Some (code, left)

-- a stop is the fault that was read, or want of memory
abbrev pub Stops : {Y : Type 0} → Stop → Result Y Fault → Type 0
Stops stop read = answers.Tells (told stop) read

-- what a function returned, seen by view, is what was read, unless memory ran out
abbrev pub Gives : {X Y : Type 0} → (X → Y) → Result X Stop → Result Y Fault → Type 0
Gives view answer read = answers.Gives told view answer read

-- the same of a whole text
abbrev pub refused : ExprFault → Option Fault
refused faults.Memory = None
refused (faults.Refused code at) = Some (code, at)

abbrev pub Answers : Result Expr ExprFault → Result Expr Fault → Type 0
Answers answer parsed = answers.Gives refused (λ tree. tree) answer parsed
