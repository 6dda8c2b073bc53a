-- What an evaluation knows of the world outside its expression.
use Rattle.std.specs.Prelude.{ℕ, Bool, List, Option, nat_eq}
use Rattle.std.specs.Cmp.Lexicographic.{pointwise}
use Rattle.std.specs.FinMap as map
use Rattle.pl_base.specs.Files.{text_cmp}
use Rattle.pl_base.specs.Folding.{folded}
use Rattle.pl_base.specs.declared.outcome.Outcome.{Outcome}
use Rattle.pl_base.specs.declared.value.MarkedNode.{MarkedNode}

-- whether a key is that name, the case of ASCII's letters aside
abbrev pub same_name : List ℕ → List ℕ → Bool
same_name name key = pointwise nat_eq (folded key) (folded name)

pub record Known : Type 0 where
  -- the values of the roots, each at its name in upper case
  pub roots : map.FinMap text_cmp MarkedNode
  -- whether the run is canceled
  pub canceled : Bool
  -- the results of all dependencies, None where one hasn't ended
  pub all : List (Option Outcome)
  -- the results of dependencies by their names
  pub named : List (List ℕ × Outcome)

-- the value of a root, the case of its name aside
abbrev pub root_of : Known → List ℕ → Option MarkedNode
root_of known name = map.get known.roots (folded name)
