-- Every origin of an expanded tree tells places that exist: in files that were used, or in the run
-- arguments. And what no argument and no expression gave stands where its borders lead.
use Rattle.std.specs.Prelude.{◌≡◌, ◌⊎◌, ℕ, true, List, [], ◌∷◌, codes, Some, Ok, Contains, IfOk}
use Rattle.std.specs.FinMap as finite
use Rattle.std.specs.List.{AllByRecursion}
use Rattle.pl_base.specs.Places.{place_at}
use Rattle.pl_base.specs.declared.expanded.Argument.{Argument as RunArgument}
use Rattle.pl_base.specs.declared.expanded.Expanded.{Expanded}
use Rattle.pl_base.specs.declared.node.Node.{Node}
use Rattle.pl_base.specs.declared.origin.Crossing.{Crossing}
use Rattle.pl_base.specs.declared.origin.Crossing.TheVariants.{Extends, Include, Argument, Made}
use Rattle.pl_base.specs.declared.origin.Origin.{Origin}
use Rattle.pl_base.specs.declared.place.FileKey.{FileKey}
use Rattle.pl_base.specs.declared.place.Place.{Place}
use Rattle.pl_calls.specs.declared.files.Parsed.{Parsed}
use Rattle.pl_calls.specs.declared.reaching.Home.{Home}
use Rattle.pl_calls.specs.Reaching.{target}
use Rattle.pl_paths.specs.Paths.{cut_path}
use Rattle.pl_template.specs.Cutting.{holds_opening}
use Rattle.pl_yaml.specs.Spells as yaml
use Rattle.pl_base.specs.declared.value.Value.{Str}
use Rattle.pl_eval_laws.specs.Marks.{IsOfFiles, scalar}
use Rattle.pl_eval_laws.specs.Trees.{origins_of}
use Rattle.pl_origins.specs.Places.{places_of}
use Rattle.pl_origins.specs.Spots.{Written, begins, IsTextOf}
use Rattle.pl_expand.specs.Tree.{Set, expansion}
use Rattle.pl_expand.specs.Below.pl_root.specs.Arguments.{argument_file}
use Rattle.pl_provenance.specs.Texts.{IsSpot, Says}
use Rattle.pl_provenance.specs.Written.{StandsInFile}

-- a node or a key of a used file stands there
pub record IsUsed (files : Set) (used : List FileKey) (place : Place) : Type 0 where
  pub key : FileKey
  pub is_used : Contains used key
  pub stands : StandsInFile files key place

-- a node or a key of what a run argument spells stands there
pub record IsSpelled (argument : RunArgument) (place : Place) : Type 0 where
  pub node : Node
  pub spelled : yaml.spells (argument_file argument.name) argument.text ≡ Ok node
  pub stands : Contains (places_of node) place

-- a run argument's whole text stands there, or a part of what it spells
abbrev pub IsOfArgument : RunArgument → Place → Type 0
IsOfArgument argument place =
    (place ≡ place_at (argument_file argument.name) 1 1) ⊎ IsSpelled argument place

pub record IsGiven (arguments : List RunArgument) (place : Place) : Type 0 where
  pub argument : RunArgument
  pub is_given : Contains arguments argument
  pub stands : IsOfArgument argument place

abbrev pub IsPlace : Set → List FileKey → List RunArgument → Place → Type 0
IsPlace files used arguments place = IsUsed files used place ⊎ IsGiven arguments place

-- a used file that is there, so that its text is among the sources of a plan
abbrev pub IsUsedFile : Set → List FileKey → FileKey → Type 0
IsUsedFile files used key =
    Contains used key × ((file : Parsed) × (finite.get files key ≡ Some file))

-- some path leads to a file from an item that stands there, so the file is of the item's
-- repository, of the run's own, or of one that resources name
abbrev pub IsReached : Home → Place → FileKey → Type 0
IsReached home at key = (path : List ℕ) × (target at (cut_path path) home ≡ Ok (Some key))

-- A border leads into a used file that is there. An item that calls stands in a used file or was
-- given by a run argument, and a path leads from it to the called file; an expression that takes a
-- parameter stands in a used file.
abbrev pub IsBorder : Set → Home → List FileKey → List RunArgument → Crossing → Type 0
IsBorder files home used arguments (Extends file) = IsUsedFile files used file
IsBorder files home used arguments (Include file at) =
    IsUsedFile files used file × IsPlace files used arguments at × IsReached home at file
IsBorder files home used arguments (Argument name at) = IsUsed files used at
IsBorder files home used arguments Made = Unit {0}

-- ---- where borders lead

-- an expression stands there, where it may give an item, its first key or its path
pub record IsAsked (files : Set) (place : Place) : Type 0 where
  pub text : List ℕ
  pub written : Written
  pub is_in : IsTextOf text written
  pub stands : IsSpot files place written
  pub expression : holds_opening text ≡ true

-- An item that calls, by a path that is said at a place: a mapping whose first key is `template`,
-- and the path is what is written under it. Or an expression gives it.
pub data IsCalling (files : Set) (at place : Place) (path : List ℕ) : Type 0 where
  as_written :
      IsSpot files at (begins (record { key = codes "template"; place = place; text = path })) →
      IsCalling files at place path
  by_expression : IsAsked files at → IsCalling files at place path

-- The item that stands there calls by a path that the file says, at a place of its own, and that
-- leads to another file.
pub record IsNamed (files : Set) (home : Home) (file : FileKey) (at : Place) (key : FileKey)
    : Type 0 where
  pub place : Place
  pub path : List ℕ
  pub stands : StandsInFile files file place
  pub says : Says files place (scalar (Str path))
  pub calls : IsCalling files at place path
  pub leads : target at (cut_path path) home ≡ Ok (Some key)

-- From a file on: `extends` leads into its template, the item of each call stands in the file
-- before it and calls by the path that leads to the called file, and what is told stands in the
-- last file.
abbrev pub Leads : Set → Home → FileKey → List Crossing → Place → Type 0
Leads files home file [] place = StandsInFile files file place
Leads files home file (Extends key ∷ crossings) place = Leads files home key crossings place
Leads files home file (Include key at ∷ crossings) place =
    StandsInFile files file at
    × (IsNamed files home file at key × Leads files home key crossings place)
Leads files home file (other ∷ crossings) place = ⊥

-- what no argument and no expression gave stands where its borders lead from the root file
abbrev pub IsLedFrom : Set → Home → Origin → Type 0
IsLedFrom files home origin =
    AllByRecursion IsOfFiles origin.crossings →
    Leads files home home.root origin.crossings origin.source

-- ---- what an origin tells

-- where paths lead in a tree's files: from that root, with the tree's repositories
abbrev pub home_in : FileKey → Expanded → Home
home_in root whole = record { root = root; repositories = whole.repositories }

abbrev pub IsKnown : Set → Home → List FileKey → List RunArgument → Origin → Type 0
IsKnown files home used arguments origin =
    IsPlace files used arguments origin.source
    × AllByRecursion (IsBorder files home used arguments) origin.crossings
    × IsLedFrom files home origin

-- This is so of each node and each key of every expanded tree.
abbrev pub OriginsAreKnown : Type 0
OriginsAreKnown =
    (files : Set) (root : FileKey) (arguments : List RunArgument) →
    IfOk (expansion files root arguments)
    (λ whole. AllByRecursion (IsKnown files (home_in root whole) whole.used arguments)
    (origins_of whole.tree))
