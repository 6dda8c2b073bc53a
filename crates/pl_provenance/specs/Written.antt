-- Where the nodes are written that no argument and no expression gave (Microsoft Learn, Azure
-- Pipelines, "Security through templates").
use Rattle.std.specs.Prelude.{◌≡◌, List, [], ◌∷◌, Option, Some, None, Contains, IfOk}
use Rattle.std.specs.FinMap as finite
use Rattle.std.specs.List.{AllByRecursion}
use Rattle.std.specs.Option.{option_or}
use Rattle.pl_base.specs.declared.expanded.Argument.{Argument as RunArgument}
use Rattle.pl_base.specs.declared.node.Node.{Node}
use Rattle.pl_base.specs.declared.origin.Crossing.{Crossing}
use Rattle.pl_base.specs.declared.origin.Crossing.TheVariants.{Extends, Include}
use Rattle.pl_base.specs.declared.origin.Origin.{Origin}
use Rattle.pl_base.specs.declared.place.FileKey.{FileKey}
use Rattle.pl_base.specs.declared.place.Place.{Place}
use Rattle.pl_base.specs.declared.value.MarkedPair.{MarkedPair}
use Rattle.pl_calls.specs.declared.files.Parsed.TheVariants.{Good}
use Rattle.pl_eval_laws.specs.Trees.{origins_in}
use Rattle.pl_origins.specs.Places.{places_of}
use Rattle.pl_expand.specs.Tree.{Set, expansion}
use Rattle.pl_provenance.specs.Roots.{jobs_of}

-- ---- a node or a key of a file stands there

pub record StandsInFile (files : Set) (key : FileKey) (place : Place) : Type 0 where
  pub node : Node
  pub file : finite.get files key ≡ Some (Good node)
  pub stands : Contains (places_of node) place

-- ---- a node is written where it came from, where only calls stand behind the border `extends`

abbrev pub behind_extends : List Crossing → List Crossing
behind_extends [] = []
behind_extends (Extends file ∷ crossings) = crossings
behind_extends (other ∷ crossings) = behind_extends crossings

abbrev pub IsCall : Crossing → Type 0
IsCall (Include file at) = Unit {0}
IsCall other = ⊥

abbrev pub IsWritten : Origin → Type 0
IsWritten origin = AllByRecursion IsCall (behind_extends origin.crossings)

-- ---- the file into which a border leads, and the last of these

abbrev pub file_of : Crossing → Option FileKey
file_of (Extends file) = Some file
file_of (Include file at) = Some file
file_of other = None

abbrev pub last_file : List Crossing → Option FileKey
last_file [] = None
last_file (crossing ∷ crossings) = option_or (last_file crossings) (file_of crossing)

-- what is written stands in the file of the last border that its origin tells
pub record IsThere (files : Set) (origin : Origin) : Type 0 where
  pub key : FileKey
  pub told : last_file origin.crossings ≡ Some key
  pub stands : StandsInFile files key origin.source

abbrev pub IsWhereTold : Set → Origin → Type 0
IsWhereTold files origin = IsWritten origin → IsThere files origin

abbrev pub ArePairsWhereTold : Set → List MarkedPair → Type 0
ArePairsWhereTold files pairs =
    AllByRecursion (λ (pair : MarkedPair). AllByRecursion (IsWhereTold files) (origins_in pair))
    pairs

-- Where the root extends a template, each node and key of the jobs that no argument and no
-- expression gave is written in the template itself, or in the file of the last call that its
-- origin tells.
abbrev pub WrittenWhereTold : Type 0
WrittenWhereTold =
    (files : Set) (root : FileKey) (arguments : List RunArgument) (file : FileKey) →
    IfOk (expansion files root arguments)
    (λ whole. whole.extends ≡ Some file → ArePairsWhereTold files (jobs_of whole.tree))
