-- The meaning of an expression (Microsoft Learn, Azure Pipelines, "Expressions"): a value and where
-- it comes from, or the first fault. Arguments are looked at from left to right.
use Rattle.std.specs.Prelude.{ℕ, zero, suc, Bool, true, false, not, List, [], ◌∷◌, drop, take, map}
use Rattle.std.specs.Prelude.{min, slice_get, Option, Some, None, unwrap_or, Result, Ok, Err}
use Rattle.std.specs.Prelude.{if◌then◌else◌}
use Rattle.pl_base.specs.declared.origin.Origin.{Origin}
use Rattle.pl_base.specs.declared.value.Value.{Value, Null, Bool as Truth}
use Rattle.pl_base.specs.declared.value.MarkedNode.{MarkedNode}
use Rattle.pl_expr.specs.Conversions.{bool_of, cast_text, is_null, equals}
use Rattle.pl_expr.specs.Functions.{most_of}
use Rattle.pl_expr.specs.declared.expr.Expr.{Expr}
use Rattle.pl_expr.specs.declared.expr.Expr.TheOpen.{Expr-F, Lit, Root, Index, Project, Call}
use Rattle.pl_expr.specs.declared.expr.Expr.TheFolds.{fold-Expr}
use Rattle.pl_expr.specs.declared.expr.Function.{Function}
use Rattle.pl_expr.specs.declared.expr.Function.TheVariants.{Not, Length, Lower, Upper, Trim, Xor}
use Rattle.pl_expr.specs.declared.expr.Function.TheVariants.{Eq, Ne, Lt, Le, Gt, Ge, Contains}
use Rattle.pl_expr.specs.declared.expr.Function.TheVariants.{StartsWith, EndsWith, ContainsValue}
use Rattle.pl_expr.specs.declared.expr.Function.TheVariants.{Join, Split, Replace, Iif, And, Or}
use Rattle.pl_expr.specs.declared.expr.Function.TheVariants.{Coalesce, In, NotIn, Format, Always}
use Rattle.pl_expr.specs.declared.expr.Function.TheVariants.{Canceled, Failed, Succeeded}
use Rattle.pl_expr.specs.declared.expr.Function.TheVariants.{SucceededOrFailed}
use Rattle.pl_eval.specs.declared.fault.EvalCode.{EvalCode}
use Rattle.pl_eval.specs.declared.fault.EvalCode.TheVariants.{UnknownRoot}
use Rattle.pl_eval.specs.Known.{Known, root_of}
use Rattle.pl_eval.specs.LookUps.{made, looked_up, projected}
use Rattle.pl_eval.specs.Applied.{applied}
use Rattle.pl_eval.specs.declared.manner.Manner.{Manner}
use Rattle.pl_eval.specs.declared.manner.Manner.TheVariants.{Choosing, All, Any, First, Among}
use Rattle.pl_eval.specs.declared.manner.Manner.TheVariants.{NotAmong, Status, Strict}
use Rattle.pl_eval.specs.declared.manner.Operation.TheVariants as operation
use Rattle.pl_eval.specs.declared.manner.UnaryFunction.TheVariants as unary
use Rattle.pl_eval.specs.declared.manner.BinaryFunction.TheVariants as binary
use Rattle.pl_eval.specs.Statuses.{status_of}
use Rattle.pl_reading.specs.Steps.{◌>>=◌}

abbrev pub Meaning : Type 0
Meaning = Result MarkedNode EvalCode

-- ---- arguments

abbrev pub null : Origin → MarkedNode
null here = made here Null

-- the argument at a place from 0; a missing one is Null
abbrev pub argument : Origin → List Meaning → ℕ → Meaning
argument here arguments at = unwrap_or (slice_get arguments at) (Ok (null here))

-- the arguments, with a Null for each that is missing of so many
abbrev pub filled : Origin → ℕ → List Meaning → List Meaning
filled here zero arguments = arguments
filled here (suc least) [] = Ok (null here) ∷ filled here least []
filled here (suc least) (first ∷ arguments) = first ∷ filled here least arguments

-- whether all arguments count as true: the first that doesn't decides
unfoldable pub all_true : List Meaning → Result Bool EvalCode
all_true [] = Ok true
all_true (first ∷ arguments) = first >>= λ node. if bool_of node.value then all_true arguments
    else Ok false

-- whether one argument counts as true: the first that does decides
unfoldable pub any_true : List Meaning → Result Bool EvalCode
any_true [] = Ok false
any_true (first ∷ arguments) = first >>= λ node. if bool_of node.value then Ok true
    else any_true arguments

-- the first argument that is neither Null nor the empty text, else Null
unfoldable pub first_filled : Origin → List Meaning → Meaning
first_filled here [] = Ok (null here)
first_filled here (first ∷ arguments) = first >>= λ node. if is_null node.value
    then first_filled here arguments else Ok node

-- whether an argument is equal to the value that is sought, which is on the left: the first that is
-- decides
unfoldable pub is_among : Value → List Meaning → Result Bool EvalCode
is_among sought [] = Ok false
is_among sought (first ∷ arguments) = first >>= λ node. if equals sought node.value then Ok true
    else is_among sought arguments

-- the values of all arguments
unfoldable pub values : List Meaning → Result (List MarkedNode) EvalCode
values [] = Ok []
values (first ∷ arguments) = first >>= λ node. values arguments >>= λ nodes. Ok (node ∷ nodes)

-- the arguments that a function looks at: none past the greatest count
abbrev pub up_to : Option ℕ → List Meaning → List Meaning
up_to None arguments = arguments
up_to (Some most) arguments = take most arguments

-- how many that is of so many
abbrev pub counted : Option ℕ → ℕ → ℕ
counted None count = count
counted (Some most) count = min most count

-- ---- calls

abbrev pub answer : Origin → Value → Meaning
answer here value = Ok (made here value)

abbrev pub truth : Origin → Bool → Meaning
truth here is = answer here (Truth is)

-- an answer as a value that is made, and the contrary answer
abbrev pub told : Origin → Result Bool EvalCode → Meaning
told here is = is >>= truth here

abbrev pub contrary : Origin → Result Bool EvalCode → Meaning
contrary here is = is >>= λ answer. truth here (not answer)

-- iif evaluates its first argument and the one that this chooses
abbrev pub chosen : Origin → List Meaning → Meaning
chosen here arguments =
    argument here arguments 0 >>= λ condition.
    if bool_of condition.value then argument here arguments 1 else argument here arguments 2

-- whether the first argument is equal to one of the others
abbrev pub first_is_among : Origin → List Meaning → Result Bool EvalCode
first_is_among here arguments = argument here arguments 0 >>= λ first. is_among first.value
    (drop 1 arguments)

-- a status function takes the casts of its arguments for names
abbrev pub status : Known → Origin → Function → List MarkedNode → Meaning
status known here function nodes =
    truth here (status_of known function (map (λ node. cast_text node.value) nodes))

-- how a call looks at its arguments
abbrev pub called_by : Manner → Known → Origin → Function → List Meaning → Meaning
called_by Choosing known here function arguments = chosen here arguments
called_by All known here function arguments = told here (all_true (filled here 2 arguments))
called_by Any known here function arguments = told here (any_true arguments)
called_by First known here function arguments = first_filled here arguments
called_by Among known here function arguments = told here (first_is_among here arguments)
called_by NotAmong known here function arguments = contrary here (first_is_among here arguments)
called_by Status known here function arguments = values (up_to (most_of function) arguments) >>=
    status known here function
called_by (Strict operation) known here function arguments =
    values (up_to (most_of function) arguments) >>= λ nodes. applied here operation nodes >>=
    answer here

abbrev pub manner_of : Function → Manner
manner_of Iif = Choosing
manner_of And = All
manner_of Or = Any
manner_of Coalesce = First
manner_of In = Among
manner_of NotIn = NotAmong
manner_of Always = Status
manner_of Canceled = Status
manner_of Failed = Status
manner_of Succeeded = Status
manner_of SucceededOrFailed = Status
manner_of Not = Strict (operation.One unary.Not)
manner_of Length = Strict (operation.One unary.Length)
manner_of Lower = Strict (operation.One unary.Lower)
manner_of Upper = Strict (operation.One unary.Upper)
manner_of Trim = Strict (operation.One unary.Trim)
manner_of Xor = Strict (operation.Two binary.Xor)
manner_of Eq = Strict (operation.Two binary.Eq)
manner_of Ne = Strict (operation.Two binary.Ne)
manner_of Lt = Strict (operation.Two binary.Lt)
manner_of Le = Strict (operation.Two binary.Le)
manner_of Gt = Strict (operation.Two binary.Gt)
manner_of Ge = Strict (operation.Two binary.Ge)
manner_of Contains = Strict (operation.Two binary.Contains)
manner_of StartsWith = Strict (operation.Two binary.StartsWith)
manner_of EndsWith = Strict (operation.Two binary.EndsWith)
manner_of ContainsValue = Strict (operation.Two binary.ContainsValue)
manner_of Join = Strict (operation.Two binary.Join)
manner_of Split = Strict (operation.Two binary.Split)
manner_of Replace = Strict operation.Replace
manner_of Format = Strict operation.Format

-- a call, by the meanings of its arguments
abbrev pub called : Known → Origin → Function → List Meaning → Meaning
called known here function arguments = called_by (manner_of function) known here function arguments

-- ---- expressions

abbrev pub rooted : Option MarkedNode → Meaning
rooted None = Err UnknownRoot
rooted (Some node) = Ok node

-- a look-up by an index: a fault of what is looked in comes first
abbrev pub indexed : Origin → Meaning → Meaning → Meaning
indexed here of at = of >>= λ node. at >>= λ index. Ok (looked_up here node.value index.value)

abbrev pub means_step : Known → Origin → Expr-F Meaning → Meaning
means_step known here (Lit value) = answer here value
means_step known here (Root name) = rooted (root_of known name)
means_step known here (Index of at) = indexed here of at
means_step known here (Project of names) = of >>= λ node. answer here (projected names node.value)
means_step known here (Call function arguments) = called known here function arguments

abbrev pub means : Known → Origin → Expr → Meaning
means known here = fold-Expr Meaning (means_step known here)
