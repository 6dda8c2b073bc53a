-- The value of an expression's text at a place of a frame's file (Microsoft Learn, Azure Pipelines,
-- "Expressions").
use Rattle.std.specs.Prelude.{ℕ, List, Result, Ok, Err}
use Rattle.pl_base.specs.declared.place.Place.{Place}
use Rattle.pl_base.specs.declared.value.MarkedNode.{MarkedNode}
use Rattle.pl_expr.specs.declared.expr.Expr.{Expr}
use Rattle.pl_expr.specs.declared.expr.Mode.TheVariants.{Compile}
use Rattle.pl_expr.specs.Grammar.{Fault, parses}
use Rattle.pl_eval.specs.declared.fault.EvalCode.{EvalCode}
use Rattle.pl_eval.specs.Means.{means}
use Rattle.pl_frame.specs.declared.frame.Frame.{Frame}
use Rattle.pl_frame.specs.declared.problem.ExpressionProblem.{ExpressionProblem}
use Rattle.pl_frame.specs.declared.problem.ExpressionProblem.TheVariants.{Unparsed, Undefined}
use Rattle.pl_frame.specs.Names.{known_at}
use Rattle.pl_frame.specs.Origins.{made_at}

abbrev pub defined : Result MarkedNode EvalCode → Result MarkedNode ExpressionProblem
defined (Ok node) = Ok node
defined (Err code) = Err (Undefined code)

abbrev pub meant_by : Frame → Place → Result Expr Fault → Result MarkedNode ExpressionProblem
meant_by frame place (Ok expr) = defined (means (known_at frame place) (made_at frame place) expr)
meant_by frame place (Err fault) = Err (Unparsed fault.0)

abbrev pub expression_at : Frame → Place → List ℕ → Result MarkedNode ExpressionProblem
expression_at frame place text = meant_by frame place (parses Compile text)
