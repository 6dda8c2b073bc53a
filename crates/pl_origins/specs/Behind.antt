-- Frames behind the border `extends`, and what is expanded in them.
use Rattle.std.specs.Prelude.{◌≡◌, ℕ, List, [], ◌∷◌, IfOk}
use Rattle.std.specs.List.{AllByRecursion}
use Rattle.pl_base.specs.declared.node.Node.{Node}
use Rattle.pl_base.specs.declared.place.FileKey.{FileKey}
use Rattle.pl_base.specs.declared.value.MarkedNode.{MarkedNode}
use Rattle.pl_eval_laws.specs.Trees.{origins_of}
use Rattle.pl_frame.specs.declared.frame.Frame.{Frame}
use Rattle.pl_frame.specs.declared.frame.Loop.{Loop}
use Rattle.pl_frame.specs.declared.frame.Parameter.{Parameter}
use Rattle.pl_directives.specs.declared.region.Region.{Region}
use Rattle.pl_recursion.specs.Below.pl_calls.specs.Reaching.{Opens}
use Rattle.pl_recursion.specs.Expanding.{expanded}
use Rattle.pl_recursion.specs.Following.{scope_of}
use Rattle.pl_recursion.specs.Levels.{followed}
use Rattle.pl_origins.specs.Through.{extended_in, IsThrough}

-- each node and each key of a tree came through the template
abbrev pub IsTreeThrough : FileKey → MarkedNode → Type 0
IsTreeThrough file node = AllByRecursion (IsThrough file) (origins_of node)

-- A frame behind the border into a template: the frame itself was reached across it, and so was all
-- that its parameters and its loops hold.
pub record IsBehind (file : FileKey) (frame : Frame) : Type 0 where
  pub crossings : extended_in frame.crossings ≡ file ∷ []
  pub parameters :
      AllByRecursion (λ (one : Parameter). IsTreeThrough file one.value) frame.parameters
  pub loops : AllByRecursion (λ (one : Loop). IsTreeThrough file one.item) frame.loops

-- What is expanded in such a frame came through the template, whatever templates are called in it.
abbrev pub KeepsWhatWasExtended : Type 0
KeepsWhatWasExtended =
    (file : FileKey) (levels : ℕ) (opens : Opens) (frame : Frame) (node : Node) (region : Region)
    (count : ℕ) (used : List FileKey) →
    IsBehind file frame →
    IfOk (expanded node (scope_of (followed levels opens) frame region) count used)
    (λ both. IsTreeThrough file both.0.node)
