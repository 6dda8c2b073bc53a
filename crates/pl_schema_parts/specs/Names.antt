-- Names of stages, jobs and steps.
use Rattle.std.specs.Prelude.{ℕ, Bool, ◌&&◌, ◌||◌, nat_le, List, length, Option, Some, None, Result}
use Rattle.std.specs.Prelude.{Ok, if◌then◌else◌}
use Rattle.std.specs.List.{list_all, list_any}
use Rattle.std.specs.BTreeSet.{contains}
use Rattle.std.specs.Ordering.{nat_cmp}
use Rattle.std.specs.Cmp.Lexicographic.{slice_cmp}
use Rattle.pl_base.specs.Folding.{folded}
use Rattle.pl_base.specs.declared.value.MarkedNode.{MarkedNode}
use Rattle.pl_expr.specs.Grammar.{is_word, is_name_byte}
use Rattle.pl_literal.specs.Booleans.{spells}
use Rattle.pl_schema_parts.specs.declared.fault.SchemaCode.TheVariants.{BadName, NameTwice}
use Rattle.pl_schema_parts.specs.declared.names.Names.{Names}
use Rattle.pl_schema_parts.specs.Gives.{Fault}
use Rattle.pl_schema_parts.specs.Rows.{at_node}
use Rattle.pl_reading.specs.Steps.{◌>>=◌}
use Rattle.pl_schema_parts.specs.Scalars.{text_in}

-- a letter or `_`, then letters, digits and `_`, at most 100 of them (Microsoft Learn, "YAML schema
-- reference": the names of stages, jobs and steps)
abbrev pub is_name : List ℕ → Bool
is_name text = is_word text && (list_all is_name_byte text && nat_le (length text) 100)

-- whether a name is one of those, the case of ASCII's letters aside
abbrev pub is_taken : List (List ℕ) → List ℕ → Bool
is_taken names name = list_any (spells name) names

-- a name that isn't taken yet
abbrev pub new_name : (List ℕ → Bool) → MarkedNode → List ℕ → Result (List ℕ) Fault
new_name taken node text =
    if is_name text then (if taken text then at_node NameTwice node else Ok text)
    else at_node BadName node

unfoldable pub name_in : (List ℕ → Bool) → MarkedNode → Result (List ℕ) Fault
name_in taken node = text_in node >>= new_name taken node

-- one more name is taken, where there is one
abbrev pub also_taken : (List ℕ → Bool) → Option (List ℕ) → List ℕ → Bool
also_taken taken None other = taken other
also_taken taken (Some name) other = taken other || spells other name

-- what a set of names tells of a name
abbrev pub taken : Names → List ℕ → Bool
taken names name = contains (slice_cmp nat_cmp) names.folded (folded name)
