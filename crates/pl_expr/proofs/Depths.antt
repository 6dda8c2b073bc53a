-- How deep trees are.
use Rattle.std.proofs.Common.{◌≡◌, List, [], ◌∷◌, ◌++◌, map, max, arith}
use Rattle.pl_expr.specs.declared.expr.Expr.{Expr}
use Rattle.pl_expr.specs.Trees.{depth_of, deepest}

pub deepest_push :
    (trees : List Expr) (tree : Expr) →
    deepest (map depth_of (trees ++ tree ∷ [])) ≡ max (deepest (map depth_of trees)) (depth_of tree)
deepest_push [] tree = omega arith
deepest_push (first ∷ trees) tree = omega (arith, deepest_push trees tree)
