-- Places in files of texts name these files.
use Rattle.std.proofs.Common.{◌≡◌, ℕ, zero, suc, Option, Some, None, Result, Ok, Err}
use Rattle.std.proofs.Common.{List, [], ◌∷◌, sym, subst, ◌∙◌, arith}
use Rattle.std.specs.Prelude.{Contains, IfOk}
use Rattle.std.specs.FinMap as finite
use Rattle.std.specs.Option.{option_map}
use Rattle.std.specs.List.{AllByRecursion as Each}
use Rattle.pl_base.specs.declared.node.Node.{Node}
use Rattle.pl_base.specs.declared.place.FileKey.{FileKey}
use Rattle.pl_base.specs.declared.place.Place.{Place}
use Rattle.pl_line.specs.declared.code.YamlCode.{YamlCode}
use Rattle.pl_yaml.specs.Spells as yaml
use Rattle.pl_step_origins.specs.Below.pl_calls.specs.declared.files.Parsed.{Parsed}
use Rattle.pl_step_origins.specs.Below.pl_calls.specs.declared.files.Parsed.TheVariants.{Good}
use Rattle.pl_step_origins.specs.Below.pl_origins.specs.Places.{places_of}
use Rattle.pl_step_origins.specs.Below.pl_expand.specs.Below.pl_root.specs.Reading.{parsed, read_as}
use Rattle.pl_step_origins.specs.Below.pl_provenance.specs.Reader.{NamesFile}
use Rattle.pl_step_origins.specs.Below.pl_provenance.specs.Written.{StandsInFile}
use Rattle.pl_step_origins.specs.Below.pl_provenance.proofs.Reader.{named}
use Rattle.pl_compile.specs.Named.{PlacesNameTheirFile}
use Rattle.pl_compile.specs.Reading.{Texts, read_all}
use Rattle.pl_compile.proofs.Reading.{read_at}

contained :
    {X : Type 0} (P : X → Type 0) (xs : List X) (x : X) → Each P xs → Contains xs x → P x
contained P [] x all (at, within, is) = absurd (omega (arith, within))
contained P (first ∷ xs) x all (zero, within, is) = subst P is all.0
contained P (first ∷ xs) x all (suc at, within, is) =
    contained P xs x all.1 (at, omega (arith, within), is)

abbrev AllHere : FileKey → Node → Type 0
AllHere key node = Each (NamesFile key) (places_of node)

spelled_node :
    (key : FileKey) (node : Node) (spelled : Result Node (YamlCode × Place)) →
    IfOk spelled (AllHere key) → read_as spelled ≡ Good node → AllHere key node
spelled_node key node (Ok other) all is =
    let same : other ≡ node = cc in
    subst (AllHere key) same all
spelled_node key node (Err told) all is = absurd (cc)

file_node :
    (key : FileKey) (node : Node) (text : Option (List ℕ)) →
    option_map (parsed key) text ≡ Some (Good node) → AllHere key node
file_node key node None is = absurd (cc)
file_node key node (Some text) is =
    let same : parsed key text ≡ Good node = cc in
    spelled_node key node (yaml.spells key text) (named key text) same

pub places_named : PlacesNameTheirFile
places_named texts key place stands =
    contained (NamesFile key) (places_of stands.node) place
    (file_node key stands.node (finite.get texts key) (sym (read_at texts key) ∙ stands.file))
    stands.stands
