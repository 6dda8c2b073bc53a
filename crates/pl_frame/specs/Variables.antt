-- The variables that templates see (Microsoft Learn, Azure Pipelines, "Define variables" and
-- "Predefined variables"): those of the root file, then three of the run.
use Rattle.std.specs.Prelude.{ℕ, List, [], ◌∷◌, ◌++◌, map, fold, find, codes, Option, None}
use Rattle.std.specs.Prelude.{◌==◌, if◌then◌else◌}
use Rattle.std.specs.Option.{option_map, option_and_then}
use Rattle.std.specs.List.{filter_map}
use Rattle.pl_base.specs.declared.value.Value.{Value, Str, out-Value}
use Rattle.pl_base.specs.declared.value.Value.TheOpen.{Value-F}
use Rattle.pl_base.specs.declared.value.Value.TheOpen as layer
use Rattle.pl_base.specs.declared.value.MarkedNode.{MarkedNode}
use Rattle.pl_base.specs.declared.value.MarkedPair.{MarkedPair}
use Rattle.pl_eval.specs.Known.{same_name}
use Rattle.pl_expr.specs.Conversions.{cast_text}
use Rattle.pl_base.specs.Texts.{is}
use Rattle.pl_frame.specs.declared.frame.Variable.{Variable}

abbrev pub variable : List ℕ → Value → Variable
variable name value = record { name = name; value = value }

-- ---- those that are written

abbrev pub pair_variable : MarkedPair → Variable
pair_variable pair = variable pair.key pair.item.value

-- the value under a key, spelled exactly
abbrev pub under : List ℕ → List MarkedPair → Option Value
under key pairs = option_map (λ pair. pair.item.value) (find (λ pair. is pair.key key) pairs)

abbrev pub named_variable : List MarkedPair → Value → Option Variable
named_variable pairs name =
    option_map (variable (cast_text name)) (under (codes "value") pairs)

-- an item of a list gives one where it has a name and a value
abbrev pub opened_variable : Value-F Value MarkedNode MarkedPair → Option Variable
opened_variable (layer.Object pairs) =
    option_and_then (named_variable pairs) (under (codes "name") pairs)
opened_variable other = None

abbrev pub item_variable : MarkedNode → Option Variable
item_variable item = opened_variable (out-Value item.value)

abbrev pub written_in : Value-F Value MarkedNode MarkedPair → List Variable
written_in (layer.Object pairs) = map pair_variable pairs
written_in (layer.Array items) = filter_map item_variable items
written_in atom = []

-- ---- those of the run: its ref, the ref's last segment, and that it was queued by hand

abbrev pub last_segment : List ℕ → List ℕ → List ℕ
last_segment segment [] = segment
last_segment segment (byte ∷ bytes) =
    if byte == 47 then last_segment [] bytes else last_segment (segment ++ byte ∷ []) bytes

abbrev pub run_variables : List ℕ → List Variable
run_variables git_ref =
    variable (codes "Build.SourceBranch") (Str git_ref)
    ∷ variable (codes "Build.SourceBranchName") (Str (last_segment [] git_ref))
    ∷ variable (codes "Build.Reason") (Str (codes "Manual"))
    ∷ []

-- ---- a later one stands in the place of an earlier one of its name, and else behind all

abbrev pub placed : List Variable → Variable → List Variable
placed [] later = later ∷ []
placed (first ∷ rest) later =
    if same_name later.name first.name then later ∷ rest else first ∷ placed rest later

abbrev pub variables_of : List ℕ → Value → List Variable
variables_of git_ref value =
    fold placed [] (written_in (out-Value value) ++ run_variables git_ref)
