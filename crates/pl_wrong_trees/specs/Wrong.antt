-- Trees that the clauses `known` and `texts` of `pl_provenance::expand` don't admit, whatever gave
-- them (Microsoft Learn, Azure Pipelines, "Security through templates").
use Rattle.std.specs.Prelude.{◌≡◌, ◌⊎◌, ℕ, true, List, [], codes, Some, None, Ok, Contains}
use Rattle.std.specs.FinMap as finite
use Rattle.std.specs.List.{AllByRecursion}
use Rattle.pl_base.specs.declared.expanded.Argument.{Argument as RunArgument}
use Rattle.pl_base.specs.declared.origin.Crossing.{Crossing}
use Rattle.pl_base.specs.declared.origin.Crossing.TheVariants.{Include}
use Rattle.pl_base.specs.declared.origin.Origin.{Origin}
use Rattle.pl_base.specs.declared.place.FileKey.{FileKey}
use Rattle.pl_base.specs.declared.place.Place.{Place}
use Rattle.pl_base.specs.declared.value.MarkedNode.{MarkedNode}
use Rattle.pl_base.specs.declared.value.Value.{Str}
use Rattle.pl_calls.specs.declared.reaching.Home.{Home}
use Rattle.pl_calls.specs.Reaching.{target}
use Rattle.pl_expr.specs.Numerals.{number_in}
use Rattle.pl_literal.specs.Booleans.{boolean_in}
use Rattle.pl_paths.specs.Paths.{cut_path}
use Rattle.pl_template.specs.Cutting.{holds_opening}
use Rattle.pl_eval_laws.specs.Marks.{Said, IsOfFiles, mark, marks_of}
use Rattle.pl_eval_laws.specs.Trees.{origins_of}
use Rattle.pl_origins.specs.Spots.{Written, begins, says, IsTextOf}
use Rattle.pl_expand.specs.Tree.{Set}
use Rattle.pl_provenance.specs.Known.{IsKnown}
use Rattle.pl_provenance.specs.Texts.{IsSpot, IsWord, IsSaid, value_said}
use Rattle.pl_provenance.specs.Written.{file_of}

-- what these two clauses say of a tree
pub record IsTraced (files : Set) (home : Home) (used : List FileKey) (arguments : List RunArgument)
    (tree : MarkedNode) : Type 0 where
  pub known : AllByRecursion (IsKnown files home used arguments) (origins_of tree)
  pub texts : AllByRecursion (IsSaid files) (marks_of tree)

-- ---- a border into a file that no source is

abbrev pub NoOtherFile : Type 0
NoOtherFile =
    (files : Set) (home : Home) (used : List FileKey) (arguments : List RunArgument)
    (tree : MarkedNode) → IsTraced files home used arguments tree →
    (origin : Origin) → Contains (origins_of tree) origin →
    (crossing : Crossing) → Contains origin.crossings crossing →
    (key : FileKey) → file_of crossing ≡ Some key → finite.get files key ≡ None → ⊥

-- ---- a border whose item is no call

-- no expression stands there
abbrev pub HasNoExpression : Set → Place → Type 0
HasNoExpression files at =
    (text : List ℕ) (written : Written) → IsSpot files at written → IsTextOf text written →
    holds_opening text ≡ true → ⊥

-- nothing stands there that begins with `template` and a path that leads to the file
abbrev pub BeginsNoCall : Set → Home → FileKey → Place → Type 0
BeginsNoCall files home key at =
    (place : Place) (path : List ℕ) →
    IsSpot files at (begins (record { key = codes "template"; place = place; text = path })) →
    target at (cut_path path) home ≡ Ok (Some key) → ⊥

abbrev pub NoOtherItem : Type 0
NoOtherItem =
    (files : Set) (home : Home) (used : List FileKey) (arguments : List RunArgument)
    (tree : MarkedNode) → IsTraced files home used arguments tree →
    (origin : Origin) → Contains (origins_of tree) origin →
    AllByRecursion IsOfFiles origin.crossings →
    (key : FileKey) (at : Place) → Contains origin.crossings (Include key at) →
    HasNoExpression files at → BeginsNoCall files home key at → ⊥

-- ---- a text in another one's place

-- a text that each type of a parameter reads as it is, if at all
pub record IsPlainText (text : List ℕ) : Type 0 where
  pub some : text ≡ [] → ⊥
  pub no_number : number_in text ≡ None
  pub no_truth : boolean_in text ≡ None

-- No other text is said there. A mapping says the empty one, which declares no parameter.
abbrev pub SaysOneText : Set → Place → List ℕ → Type 0
SaysOneText files place text =
    (said : Said) → IsSpot files place (says said) →
    (value_said said ≡ Str text) ⊎ (value_said said ≡ Str [])

abbrev pub NoOtherText : Type 0
NoOtherText =
    (files : Set) (home : Home) (used : List FileKey) (arguments : List RunArgument)
    (tree : MarkedNode) → IsTraced files home used arguments tree →
    (origin : Origin) (said : Said) → Contains (marks_of tree) (mark origin said) →
    AllByRecursion IsOfFiles origin.crossings →
    (text other : List ℕ) → IsPlainText text → SaysOneText files origin.source text →
    (other ≡ text → ⊥) → (other ≡ [] → ⊥) → (IsWord other → ⊥) →
    value_said said ≡ Str other → ⊥
