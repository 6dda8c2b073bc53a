-- The root file's parameters and its run arguments (Microsoft Learn, Azure Pipelines, "Runtime
-- parameters").
use Rattle.std.specs.Prelude.{ℕ, Bool, true, false, List, [], ◌∷◌, ◌++◌}
use Rattle.std.specs.Prelude.{find, codes}
use Rattle.std.specs.Prelude.{Option, Some, None, Result, Ok, Err, if◌then◌else◌}
use Rattle.std.specs.Option.{option_map}
use Rattle.pl_base.specs.Places.{place_at}
use Rattle.pl_base.specs.declared.expanded.Argument.{Argument}
use Rattle.pl_base.specs.declared.node.Node.{Node}
use Rattle.pl_base.specs.declared.place.FileKey.{FileKey}
use Rattle.pl_base.specs.declared.place.Place.{Place}
use Rattle.pl_base.specs.declared.value.Value.{Str}
use Rattle.pl_base.specs.declared.value.MarkedNode.{MarkedNode}
use Rattle.pl_eval.specs.LookUps.{made}
use Rattle.pl_frame.specs.Bindings.{parameters_of}
use Rattle.pl_frame.specs.declared.frame.Parameter.{Parameter}
use Rattle.pl_line.specs.declared.code.YamlCode.{YamlCode}
use Rattle.pl_literal.specs.Booleans.{spells}
use Rattle.pl_literal.specs.Literal.{literal, origin_at}
use Rattle.pl_params.specs.declared.given.Bound.{Bound}
use Rattle.pl_params.specs.declared.given.Given.{Given}
use Rattle.pl_params.specs.declared.kind.ParamKind.{ParamKind}
use Rattle.pl_params.specs.declared.kind.ParamKind.TheVariants as kind
use Rattle.pl_params.specs.declared.param.Param.{Param}
use Rattle.pl_yaml.specs.Spells as yaml
use Rattle.pl_directives.specs.declared.fault.ExpandFault.{ExpandFault}
use Rattle.pl_directives.specs.declared.fault.ExpandProblem.TheVariants.{BadFile}
use Rattle.pl_directives.specs.Complaints.{refused}
use Rattle.pl_calls.specs.Parameters.{declared_by, bound_to}
use Rattle.pl_reading.specs.Steps.{◌>>=◌}

-- ---- its parameters

-- the file in which a run argument stands
abbrev pub argument_file : List ℕ → FileKey
argument_file name = record { repo = []; git_ref = []; path = codes "/arguments/" ++ name }

abbrev pub given_as : Argument → MarkedNode → Given
given_as argument value =
    record {
      name = argument.name;
      place = place_at (argument_file argument.name) 1 1;
      value = value;
    }

-- the whole text
abbrev pub whole_text : Argument → MarkedNode
whole_text argument =
    made (origin_at [] (place_at (argument_file argument.name) 1 1)) (Str argument.text)

abbrev pub read_told : Result Node (YamlCode × Place) → Result MarkedNode ExpandFault
read_told (Ok node) = Ok (literal [] node)
read_told (Err told) = refused (BadFile told.0) told.1

-- A string takes the whole text, any other type reads it as YAML. What no parameter is declared for
-- isn't read.
abbrev pub is_text : ParamKind → Bool
is_text kind.String = true
is_text other = false

abbrev pub argument_value : Option ParamKind → Argument → Result MarkedNode ExpandFault
argument_value None argument = Ok (whole_text argument)
argument_value (Some kind) argument =
    if is_text kind then Ok (whole_text argument)
    else read_told (yaml.spells (argument_file argument.name) argument.text)

abbrev pub kind_for : List Param → List ℕ → Option ParamKind
kind_for declared name =
    option_map (λ param. param.kind) (find (λ param. spells name param.name) declared)

abbrev pub argument_given : List Param → Argument → Result Given ExpandFault
argument_given declared argument =
    argument_value (kind_for declared argument.name) argument >>= λ value.
    Ok (given_as argument value)

-- in the order of the arguments
abbrev pub arguments_given :
    List Param → List Argument → List Given → Result (List Given) ExpandFault
arguments_given declared [] given = Ok given
arguments_given declared (argument ∷ arguments) given =
    argument_given declared argument >>= λ one.
    arguments_given declared arguments (given ++ one ∷ [])

abbrev pub bound_by : List Param → List Argument → Result (List Bound) ExpandFault
bound_by declared arguments =
    arguments_given declared arguments [] >>= bound_to declared

abbrev pub parameters_by : Option Node → List Argument → Result (List Parameter) ExpandFault
parameters_by node arguments =
    declared_by node >>= λ declared.
    bound_by declared arguments >>= λ bound.
    Ok (parameters_of [] declared bound)
