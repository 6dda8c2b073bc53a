-- A value that is given for a parameter, or its default, before the parameter's type and its
-- allowed values.
use Rattle.std.specs.Prelude.{Bool, true, false, List, [], ◌∷◌, Option, Some, None, if◌then◌else◌}
use Rattle.std.specs.Option.{option_map_or}
use Rattle.std.specs.List.{list_any}
use Rattle.pl_base.specs.declared.node.Node.{Node}
use Rattle.pl_base.specs.declared.value.Value.{Value}
use Rattle.pl_base.specs.declared.value.MarkedNode.{MarkedNode}
use Rattle.pl_literal.specs.Literal.{literal}
use Rattle.pl_literal.specs.Values.{alike}
use Rattle.pl_params.specs.declared.kind.ParamKind.{ParamKind}
use Rattle.pl_params.specs.declared.judging.Judged.{Judged}
use Rattle.pl_params.specs.declared.judging.Judged.TheVariants.{Fits, NotOfType, NotAllowed}
use Rattle.pl_params.specs.Kinds.{read_as}

-- whether a value is what an allowed one is, once the type has read that
abbrev pub is_value : ParamKind → Value → Node → Bool
is_value kind value entry = option_map_or (λ read. alike value read.value)
    (read_as kind (literal [] entry)) false

-- a list of no values asks nothing
abbrev pub allows : ParamKind → List Node → Value → Bool
allows kind [] value = true
allows kind (entry ∷ entries) value = list_any (is_value kind value) (entry ∷ entries)

abbrev pub judged_read : ParamKind → List Node → Option MarkedNode → Judged
judged_read kind entries None = NotOfType
judged_read kind entries (Some node) = if allows kind entries node.value then Fits node
    else NotAllowed

abbrev pub judged : ParamKind → List Node → MarkedNode → Judged
judged kind entries node = judged_read kind entries (read_as kind node)
