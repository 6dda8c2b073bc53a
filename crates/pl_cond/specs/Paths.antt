-- Look-ups of names one after the other, as `dependencies.A.outputs['J.s.v']` is.
use Rattle.std.specs.Prelude.{ℕ, zero, suc, List, [], ◌∷◌, ◌++◌, Option, Some, None, Result, Ok}
use Rattle.std.specs.Prelude.{Err}
use Rattle.std.specs.Prelude.{◌≡◌, find, nat_eq, if◌then◌else◌}
use Rattle.std.specs.Option.{option_map, option_or}
use Rattle.std.specs.Char.{to_ascii_uppercase}
use Rattle.pl_base.specs.declared.origin.Origin.{Origin}
use Rattle.pl_base.specs.declared.value.Value.{Value, Str}
use Rattle.pl_base.specs.declared.value.MarkedNode.{MarkedNode}
use Rattle.pl_expr.specs.declared.expr.Expr.{Expr}
use Rattle.pl_eval.specs.Known.{Known, root_of, same_name}
use Rattle.pl_eval.specs.LookUps.{found, looked_up, made}
use Rattle.pl_eval.specs.Means.{Meaning, answer, means, rooted}
use Rattle.pl_reading.specs.Steps.{◌>>=◌}
use Rattle.pl_results.specs.declared.legs.Leg.{Leg}
use Rattle.pl_results.specs.Parts.{in_order}
use Rattle.pl_cond.specs.declared.paths.Path.{Path}

abbrev pub along : Origin → Meaning → List (List ℕ) → Meaning
along here of [] = of
along here of (name ∷ names) =
    along here (of >>= λ node. Ok (looked_up here node.value (Str name))) names

-- in a value that is made there
abbrev pub inside : Origin → Value → List (List ℕ) → Meaning
inside here of names = along here (answer here of) names

-- from the value of a root on
abbrev pub path_means : Known → Origin → List ℕ → List (List ℕ) → Meaning
path_means known here root names = along here (rooted (root_of known root)) names

-- from a root on that may be there: what names lead to, or None where it isn't there
abbrev pub LeadsTo : Origin → Option Value → List (List ℕ) → Option Value → Type 0
LeadsTo here of names None = of ≡ None
LeadsTo here of names (Some value) =
    along here (rooted (option_map (made here) of)) names ≡ answer here value

-- whatever names stand for, the expression is that path, where there is one
abbrev pub IsPathOf : Expr → Option Path → Type 0
IsPathOf expr None = Unit {0}
IsPathOf expr (Some path) = (known : Known) (here : Origin) →
    means known here expr ≡ path_means known here path.root path.names

-- an atom has no members
abbrev pub IsAtom : Value → Type 0
IsAtom value = (at : Value) → found value at ≡ None

-- ---- one output

-- what stands in a key behind a prefix, the case of ASCII's letters aside
abbrev pub behind : List ℕ → List ℕ → Option (List ℕ)
behind [] key = Some key
behind (first ∷ prefix) [] = None
behind (first ∷ prefix) (byte ∷ key) =
    if nat_eq (to_ascii_uppercase first) (to_ascii_uppercase byte) then behind prefix key else None

abbrev pub named_output : List (List ℕ × List ℕ) → List ℕ → Option (List ℕ)
named_output outputs name =
    option_map (λ output. output.1) (find (λ output. same_name name output.0) outputs)

abbrev pub output_in : Leg → List ℕ → Option (List ℕ)
output_in leg key = option_map (λ output. output.1)
    (find (λ output. same_name key (leg.prefix ++ output.0)) (in_order leg.outputs))

-- that of the first leg that has the key
abbrev pub output_of : List Leg → List ℕ → Option (List ℕ)
output_of [] key = None
output_of (leg ∷ legs) key = option_or (output_in leg key) (output_of legs key)

abbrev pub with_name : Path → List ℕ → Path
with_name path name = record { root = path.root; names = path.names ++ name ∷ [] }
