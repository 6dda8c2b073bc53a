-- Where the nodes of an expression's value come from.
use Rattle.std.specs.Prelude.{◌≡◌, ◌⊎◌, ℕ, List, Some, Contains, IfOk}
use Rattle.std.specs.List.{AllByRecursion}
use Rattle.pl_base.specs.declared.origin.Origin.{Origin}
use Rattle.pl_base.specs.declared.value.MarkedNode.{MarkedNode}
use Rattle.pl_expr.specs.Given.{IsGiven}
use Rattle.pl_expr.specs.declared.expr.Expr.{Expr}
use Rattle.pl_expr.specs.declared.expr.Mode.{Mode}
use Rattle.pl_eval.specs.Known.{Known, root_of}
use Rattle.pl_eval.specs.Means.{means}
use Rattle.pl_eval_laws.specs.Trees.{origins_of}

-- some root name holds a tree in which a node or a key has that origin
pub record StandsIn (known : Known) (origin : Origin) : Type 0 where
  pub name : List ℕ
  pub root : MarkedNode
  pub holds : root_of known name ≡ Some root
  pub stands : Contains (origins_of root) origin

-- made by the expression, or handed on
abbrev pub IsHandedOn : Known → Origin → Origin → Type 0
IsHandedOn known here origin = (origin ≡ here) ⊎ StandsIn known origin

-- What an expression of the grammar gives was made where it stands, or was handed on from a root:
-- this holds of each node and of each key.
abbrev pub HandsOn : Type 0
HandsOn =
    (known : Known) (here : Origin) (mode : Mode) (depth : ℕ) (expr : Expr) →
    IsGiven mode depth expr →
    IfOk (means known here expr)
    (λ node. AllByRecursion (IsHandedOn known here) (origins_of node))
