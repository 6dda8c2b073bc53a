-- What is bound to the parameters of a template (Microsoft Learn, Azure Pipelines, "Template
-- parameters").
use Rattle.std.specs.Prelude.{Bool, true, false, not, List, [], find, Option, Some, None, Result}
use Rattle.std.specs.Prelude.{Ok, Err}
use Rattle.pl_base.specs.declared.node.Node.{Node}
use Rattle.pl_base.specs.declared.value.MarkedNode.{MarkedNode}
use Rattle.pl_literal.specs.Booleans.{spells}
use Rattle.pl_literal.specs.Literal.{literal}
use Rattle.pl_params.specs.declared.fault.Complaint.{Complaint}
use Rattle.pl_params.specs.declared.fault.ParamProblem.TheVariants as problem
use Rattle.pl_params.specs.declared.given.Bound.{Bound}
use Rattle.pl_params.specs.declared.given.Given.{Given}
use Rattle.pl_params.specs.declared.judging.Judged.{Judged}
use Rattle.pl_params.specs.declared.judging.Judged.TheVariants as judgement
use Rattle.pl_params.specs.declared.param.Param.{Param}
use Rattle.pl_params.specs.Complaints.{complaint, found_of}
use Rattle.pl_params.specs.Judging.{judged}
use Rattle.pl_params.specs.Names.{is_declared}
use Rattle.pl_params.specs.Nodes.{found_at}
use Rattle.pl_params.specs.Steps.{in_turn}

abbrev pub bound : Bool → Param → MarkedNode → Bound
bound given param value = record { name = param.name; value = value; given = given }

-- ---- a parameter's default is what is written in its template

abbrev pub default_judged : Param → Node → Judged → Result Bound Complaint
default_judged param node (judgement.Fits value) = Ok (bound false param value)
default_judged param node misfit =
    Err (complaint (problem.BadDefault param.name param.kind (found_at node)) node.place)

abbrev pub bound_default : Param → Option Node → Result Bound Complaint
bound_default param None = Err (complaint (problem.Missing param.name param.kind) param.place)
bound_default param (Some node) =
    default_judged param node (judged param.kind param.values (literal [] node))

-- ---- what is given

abbrev pub given_judged : Param → Given → Judged → Result Bound Complaint
given_judged param given (judgement.Fits value) = Ok (bound true param value)
given_judged param given judgement.NotOfType =
    Err (complaint (problem.NotOfType param.name param.kind (found_of given.value.value))
    given.place)
given_judged param given judgement.NotAllowed =
    Err (complaint (problem.NotAllowed param.name (found_of given.value.value)) given.place)

abbrev pub bound_from : Param → Option Given → Result Bound Complaint
bound_from param None = bound_default param param.default
bound_from param (Some given) =
    given_judged param given (judged param.kind param.values given.value)

-- the first that is given under the parameter's name
abbrev pub given_for : List Given → Param → Option Given
given_for given param = find (λ one. spells param.name one.name) given

abbrev pub bound_param : List Given → List Bound → Param → Result Bound Complaint
bound_param given before param = bound_from param (given_for given param)

-- ---- first what no parameter is declared for, then parameter after parameter

abbrev pub unexpected : List Param → List Given → Option Given
unexpected declared given = find (λ one. not (is_declared declared one.name)) given

abbrev pub binds_unless : Option Given → List Param → List Given → Result (List Bound) Complaint
binds_unless None declared given = in_turn (bound_param given) [] declared
binds_unless (Some one) declared given = Err (complaint (problem.Unexpected one.name) one.place)

abbrev pub binds : List Param → List Given → Result (List Bound) Complaint
binds declared given = binds_unless (unexpected declared given) declared given
