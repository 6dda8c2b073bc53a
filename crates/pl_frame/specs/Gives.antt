-- What a call gives, by what is meant.
use Rattle.std.specs.Prelude.{Result, Option, Some, None}
use Rattle.pl_reading.specs.Answers as answers
use Rattle.pl_base.specs.declared.value.MarkedNode.{MarkedNode}
use Rattle.pl_frame.specs.declared.problem.ExpressionFault.{ExpressionFault}
use Rattle.pl_frame.specs.declared.problem.ExpressionFault.TheVariants.{Refused, Memory}
use Rattle.pl_frame.specs.declared.problem.ExpressionProblem.{ExpressionProblem}

-- what a refusal tells; want of memory tells nothing
abbrev pub told : ExpressionFault → Option ExpressionProblem
told Memory = None
told (Refused problem) = Some problem

-- a refusal is the problem that is meant, and want of memory is free
abbrev pub Refuses : ExpressionFault → Result MarkedNode ExpressionProblem → Type 0
Refuses fault meant = answers.Tells (told fault) meant

-- a value is what is meant
abbrev pub Gives : Result MarkedNode ExpressionFault → Result MarkedNode ExpressionProblem → Type 0
Gives answer meant = answers.Gives told (λ value. value) answer meant
