-- What the scalars and the keys of an expanded tree say: what is written where they stand.
use Rattle.std.specs.Prelude.{◌≡◌, ◌⊎◌, ℕ, List, codes, Some, Contains, IfOk}
use Rattle.std.specs.FinMap as finite
use Rattle.std.specs.List.{AllByRecursion}
use Rattle.pl_base.specs.declared.expanded.Argument.{Argument as RunArgument}
use Rattle.pl_base.specs.declared.node.Node.{Node}
use Rattle.pl_base.specs.declared.place.FileKey.{FileKey}
use Rattle.pl_base.specs.declared.place.Place.{Place}
use Rattle.pl_base.specs.declared.value.Value.{Value, Str}
use Rattle.pl_calls.specs.declared.files.Parsed.TheVariants.{Good}
use Rattle.pl_expr.specs.Conversions.{cast_text}
use Rattle.pl_params.specs.declared.kind.ParamKind.{ParamKind}
use Rattle.pl_params.specs.Kinds.{value_as}
use Rattle.pl_eval_laws.specs.Marks.{Said, Mark, marks_of, IsTold}
use Rattle.pl_eval_laws.specs.Marks.{key as key_said, scalar}
use Rattle.pl_origins.specs.Spots.{Written, spot, spots_of}
use Rattle.pl_origins.specs.Spots.{says as written_says}
use Rattle.pl_expand.specs.Tree.{Set, expansion}

-- ---- what is written at a place

-- it stands there in a file of the set
pub record IsSpot (files : Set) (place : Place) (written : Written) : Type 0 where
  pub key : FileKey
  pub node : Node
  pub file : finite.get files key ≡ Some (Good node)
  pub stands : Contains (spots_of node) (spot place written)

-- what is said, as a value: the text of a key is one
abbrev pub value_said : Said → Value
value_said (key_said name) = Str name
value_said (scalar one) = one

-- ---- what is said there in a tree, where that value is written

-- what a parameter's type reads of it, as of a default; there are types that read it as it is
pub record IsRead (written one : Value) : Type 0 where
  pub of : ParamKind
  pub is : value_as of written ≡ Some one

-- the text that this is cast to: where it is a text, that text
pub record IsCast (written : Value) (name : List ℕ) : Type 0 where
  pub one : Value
  pub read : IsRead written one
  pub is : cast_text one ≡ name

-- a key of the item that a variable becomes which is written as a pair
abbrev pub IsWord : List ℕ → Type 0
IsWord name = (name ≡ codes "name") ⊎ (name ≡ codes "value")

abbrev pub IsKey : Value → List ℕ → Type 0
IsKey written name = IsCast written name ⊎ IsWord name

-- a key's text, where a loop goes over an object
pub record IsKeyText (written one : Value) : Type 0 where
  pub name : List ℕ
  pub key : IsKey written name
  pub is : one ≡ Str name

abbrev pub MaySay : Value → Said → Type 0
MaySay written (scalar one) = IsRead written one ⊎ IsKeyText written one
MaySay written (key_said name) = IsKey written name

pub record Says (files : Set) (place : Place) (said : Said) : Type 0 where
  pub written : Said
  pub stands : IsSpot files place (written_says written)
  pub says : MaySay (value_said written) said

-- ---- what no argument gave and no expression made says that

abbrev pub IsSaid : Set → Mark → Type 0
IsSaid files mark = IsTold (Says files) mark.origin mark.said

-- This is so of each scalar and each key of every expanded tree.
abbrev pub TextsAreWritten : Type 0
TextsAreWritten =
    (files : Set) (root : FileKey) (arguments : List RunArgument) →
    IfOk (expansion files root arguments)
    (λ whole. AllByRecursion (IsSaid files) (marks_of whole.tree))
