use Rattle.std.proofs.Common.{Bool, Ok, Option, subst, sym}
use Rattle.std.specs.Prelude.{if◌then◌else◌}
use Rattle.pl_params.specs.declared.kind.ParamKind.{ParamKind}
use Rattle.pl_yaml.specs.Spells as yaml
use Rattle.pl_directives.specs.Gives.{Gives}
use Rattle.pl_root.specs.Arguments.{argument_file, argument_value, read_told, whole_text}
use Rattle.pl_root.proofs.arguments.argument_value.Goals as goal

pub returns-else-is_text : goal.returns-else-is_text
returns-else-is_text c =
    let argument = c.args.argument.now in
    let given = c.read_text.result in
    subst (λ (kind : Option ParamKind). Gives given (argument_value kind argument))
    (sym c.in-Some.is)
    (subst (λ (is : Bool). Gives given (if is then Ok (whole_text argument)
    else read_told (yaml.spells (argument_file argument.name) argument.text)))
    c.if-is_text.ensures c.read_text.ensures)
