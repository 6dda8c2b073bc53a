use Rattle.std.proofs.Common.{◌≡◌, ◌-◌, map, max, drop, take}
use Rattle.pl_expr.specs.Functions.{most_of}
use Rattle.pl_eval.specs.Means.{means, up_to, all_true, any_true, first_filled, is_among, values}
use Rattle.pl_eval.proofs.Walks.{behind}
use Rattle.pl_eval.proofs.evaluate.+evaluation.Given as goal

abbrev pub invariant-are_all_true-loop-expr : goal.invariant-are_all_true-loop-expr
invariant-are_all_true-loop-expr g l =
    all_true (map (means (g.N.Names.known l.names) l.here) l.expr-items) ≡
    all_true (map (means (g.N.Names.known l.names) l.here) (drop l.expr-index l.expr-items))

abbrev pub invariant-is_any_true-loop-expr : goal.invariant-is_any_true-loop-expr
invariant-is_any_true-loop-expr g l =
    any_true (map (means (g.N.Names.known l.names) l.here) l.expr-items) ≡
    any_true (map (means (g.N.Names.known l.names) l.here) (drop l.expr-index l.expr-items))

abbrev pub invariant-coalesce-loop-expr : goal.invariant-coalesce-loop-expr
invariant-coalesce-loop-expr g l = first_filled l.here (map (means (g.N.Names.known l.names) l.here)
    l.expr-items) ≡ first_filled l.here (map (means (g.N.Names.known l.names) l.here)
    (drop l.expr-index l.expr-items))

abbrev pub invariant-is_first_among-loop-index : goal.invariant-is_first_among-loop-index
invariant-is_first_among-loop-index g l =
    is_among l.sought.value (drop 1 (map (means (g.N.Names.known l.names) l.here) l.expr-items)) ≡
    is_among l.sought.value (map (means (g.N.Names.known l.names) l.here)
    (drop (max 1 l.index) l.expr-items))

abbrev pub invariant-evaluate_all-loop-index : goal.invariant-evaluate_all-loop-index
invariant-evaluate_all-loop-index g l =
    values (up_to (most_of l.fn.function) (map (means (g.N.Names.known l.names) l.here)
    l.expr-items)) ≡
    behind l.nodes
    (values
    (take (l.count - l.index) (map (means (g.N.Names.known l.names) l.here)
    (drop l.index l.expr-items))))
