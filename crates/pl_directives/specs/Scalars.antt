-- Scalars and keys (Microsoft Learn, Azure Pipelines, "Template expressions").
use Rattle.std.specs.Prelude.{ℕ, Bool, List, [], ◌∷◌, ◌++◌, Result, Ok, Err}
use Rattle.pl_base.specs.declared.place.Place.{Place}
use Rattle.pl_base.specs.declared.value.Value.{Str}
use Rattle.pl_base.specs.declared.value.MarkedNode.{MarkedNode}
use Rattle.pl_eval.specs.LookUps.{made}
use Rattle.pl_expr.specs.Conversions.{bool_of, cast_text}
use Rattle.pl_frame.specs.Expressions.{expression_at}
use Rattle.pl_frame.specs.Origins.{literal_at, made_at}
use Rattle.pl_frame.specs.Trees.{nodes_in}
use Rattle.pl_frame.specs.declared.frame.Frame.{Frame}
use Rattle.pl_frame.specs.declared.problem.ExpressionProblem.{ExpressionProblem}
use Rattle.pl_frame.specs.declared.problem.ExpressionProblem.TheVariants.{Unparsed, Undefined}
use Rattle.pl_template.specs.Forms.{form_of}
use Rattle.pl_template.specs.declared.forms.Piece.{Piece}
use Rattle.pl_template.specs.declared.forms.Piece.TheVariants.{Literal}
use Rattle.pl_template.specs.declared.forms.Piece.TheVariants as piece
use Rattle.pl_template.specs.declared.forms.ScalarForm.{ScalarForm}
use Rattle.pl_template.specs.declared.forms.ScalarForm.TheVariants.{Plain, Whole, Joined, Unclosed}
use Rattle.pl_directives.specs.declared.fault.ExpandFault.{ExpandFault}
use Rattle.pl_directives.specs.declared.fault.ExpandProblem.{ExpandProblem}
use Rattle.pl_directives.specs.declared.fault.ExpandProblem.TheVariants.{BadDirective}
use Rattle.pl_directives.specs.declared.fault.ExpandProblem.TheVariants.{Expression, Evaluation}
use Rattle.pl_directives.specs.declared.progress.Counted.{Counted}
use Rattle.pl_directives.specs.declared.scalars.JoinedText.{JoinedText}
use Rattle.pl_directives.specs.Complaints.{refused}
use Rattle.pl_directives.specs.Counting.{counted, entered}
use Rattle.pl_reading.specs.Steps.{◌>>=◌}

-- ---- expressions

abbrev pub problem_of : ExpressionProblem → ExpandProblem
problem_of (Unparsed code) = Expression code
problem_of (Undefined code) = Evaluation code

abbrev pub told_at : Place → Result MarkedNode ExpressionProblem → Result MarkedNode ExpandFault
told_at place (Ok node) = Ok node
told_at place (Err problem) = refused (problem_of problem) place

-- the value of an expression in the scalar or key at a place; it isn't counted
abbrev pub value_at : Frame → Place → List ℕ → Result MarkedNode ExpandFault
value_at frame place text = told_at place (expression_at frame place text)

abbrev pub truth_at : Frame → Place → List ℕ → Result Bool ExpandFault
truth_at frame place text = value_at frame place text >>= λ node. Ok (bool_of node.value)

abbrev pub one_more : Place → ℕ → MarkedNode → Result Counted ExpandFault
one_more place count node =
    counted place (nodes_in node) count >>= λ count. Ok (record { node = node; count = count })

-- the same, and the nodes of its tree are counted
abbrev pub counted_value_at : Frame → Place → List ℕ → ℕ → Result Counted ExpandFault
counted_value_at frame place text count = value_at frame place text >>= one_more place count

-- ---- the pieces of a text, from left to right: each is cast to text

abbrev pub piece_behind : Frame → Place → Piece → JoinedText → Result JoinedText ExpandFault
piece_behind frame place (Literal text) joined =
    Ok (record { text = joined.text ++ text; count = joined.count })
piece_behind frame place (piece.Expression text) joined =
    counted_value_at frame place text joined.count >>= λ one.
    Ok (record { text = joined.text ++ cast_text one.node.value; count = one.count })

abbrev pub pieces_behind : Frame → Place → List Piece → JoinedText → Result JoinedText ExpandFault
pieces_behind frame place [] joined = Ok joined
pieces_behind frame place (first ∷ pieces) joined =
    piece_behind frame place first joined >>= pieces_behind frame place pieces

-- ---- a scalar that is no single expression

-- without an expression it is its text
abbrev pub plain_scalar : List ℕ → Frame → Place → ℕ → Counted
plain_scalar text frame place count =
    record { node = made (literal_at frame place) (Str text); count = count }

-- with pieces it is their text, which is made here
abbrev pub joined_scalar : List Piece → Frame → Place → ℕ → Result Counted ExpandFault
joined_scalar pieces frame place count =
    pieces_behind frame place pieces (record { text = []; count = count }) >>= λ joined.
    Ok (record { node = made (made_at frame place) (Str joined.text); count = joined.count })

-- ---- the value of a scalar where it stands; where it is one expression it is that value, of its
-- own kind and with its own origin

abbrev pub scalar_by : ScalarForm → List ℕ → Frame → Place → ℕ → Result Counted ExpandFault
scalar_by Plain text frame place count = Ok (plain_scalar text frame place count)
scalar_by (Whole inside) text frame place count = counted_value_at frame place inside count
scalar_by (Joined pieces) text frame place count = joined_scalar pieces frame place count
scalar_by Unclosed text frame place count = refused BadDirective place

abbrev pub scalar_value : List ℕ → Frame → Place → ℕ → Result Counted ExpandFault
scalar_value text frame place count =
    entered place count >>= λ count. scalar_by (form_of text) text frame place count
