-- The files from which the jobs of a pipeline come that extends a template (Microsoft Learn, Azure
-- Pipelines, "Security through templates"): the template itself, and the templates that it calls.
use Rattle.std.specs.Prelude.{◌≡◌, List, [], ◌∷◌, ◌++◌, Some, Contains, IfOk}
use Rattle.std.specs.List.{AllByRecursion}
use Rattle.pl_base.specs.declared.expanded.Argument.{Argument as RunArgument}
use Rattle.pl_base.specs.declared.origin.Crossing.{Crossing}
use Rattle.pl_base.specs.declared.origin.Crossing.TheVariants.{Include}
use Rattle.pl_base.specs.declared.origin.Origin.{Origin}
use Rattle.pl_base.specs.declared.place.FileKey.{FileKey}
use Rattle.pl_base.specs.declared.place.Place.{Place}
use Rattle.pl_base.specs.declared.value.MarkedNode.{MarkedNode}
use Rattle.pl_base.specs.declared.value.MarkedPair.{MarkedPair}
use Rattle.pl_eval_laws.specs.Trees.{origins_of, origins_in}
use Rattle.pl_origins.specs.Through.{extended_in}
use Rattle.pl_expand.specs.Tree.{Set, expansion}
use Rattle.pl_provenance.specs.Roots.{jobs_of}
use Rattle.pl_provenance.specs.Written.{StandsInFile, behind_extends, IsCall, IsWritten}

-- From a file on, the item of each call stands in the file before it, and what is told stands in
-- the last file.
abbrev pub IsLedTo : Set → FileKey → List Crossing → Place → Type 0
IsLedTo files file [] place = StandsInFile files file place
IsLedTo files file (Include key at ∷ crossings) place =
    StandsInFile files file at × IsLedTo files key crossings place
IsLedTo files file (other ∷ crossings) place = ⊥

-- An item that stands in a file calls another, as an origin of the tree tells, behind the border
-- into the template. No argument and no expression gave it behind that border.
pub record IsCalled (files : Set) (tree : MarkedNode) (template caller called : FileKey) : Type 0
  where
    pub origin : Origin
    pub is_told : Contains (origins_of tree) origin
    pub before : List Crossing
    pub at : Place
    pub behind : List Crossing
    pub crossings : origin.crossings ≡ before ++ Include called at ∷ behind
    pub extends : extended_in before ≡ template ∷ []
    pub written : AllByRecursion IsCall (behind_extends before)
    pub stands : StandsInFile files caller at

-- the least set of files that holds the template, and each file that a file of the set calls
pub data Closure (files : Set) (tree : MarkedNode) (template : FileKey) : FileKey → Type 0 where
  itself : Closure files tree template template
  called :
      (caller key : FileKey) → Closure files tree template caller →
      IsCalled files tree template caller key → Closure files tree template key

pub record IsInClosure (files : Set) (tree : MarkedNode) (template : FileKey) (place : Place)
    : Type 0 where
  pub key : FileKey
  pub among : Closure files tree template key
  pub stands : StandsInFile files key place

-- what is written stands in a file of the closure, to which its own borders lead
abbrev pub IsFromClosure : Set → MarkedNode → FileKey → Origin → Type 0
IsFromClosure files tree template origin =
    IsWritten origin →
    IsLedTo files template (behind_extends origin.crossings) origin.source
    × IsInClosure files tree template origin.source

abbrev pub ArePairsFromClosure : Set → MarkedNode → FileKey → Type 0
ArePairsFromClosure files tree template =
    AllByRecursion
    (λ (pair : MarkedPair). AllByRecursion (IsFromClosure files tree template) (origins_in pair))
    (jobs_of tree)

-- Where the root extends a template, each node and key of the jobs that no argument and no
-- expression gave is written in the template, or in a file that it calls, itself or by files that
-- it calls.
abbrev pub WrittenInClosure : Type 0
WrittenInClosure =
    (files : Set) (root : FileKey) (arguments : List RunArgument) (file : FileKey) →
    IfOk (expansion files root arguments)
    (λ whole. whole.extends ≡ Some file → ArePairsFromClosure files whole.tree file)
