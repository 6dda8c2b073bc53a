use Rattle.std.proofs.Common.{◌∙◌, Ok, Err, ap, sym, subst, List, length, map, drop}
use Rattle.std.proofs.lemmas.Result.{err_from_is_err_and}
use Rattle.pl_base.specs.declared.value.MarkedNode.{MarkedNode}
use Rattle.pl_expr.specs.Functions.{most_of}
use Rattle.pl_expr.specs.declared.expr.Expr.{Expr}
use Rattle.pl_eval.specs.Gives.{Gives}
use Rattle.pl_eval.specs.Means.{Meaning, means, counted, filled, up_to, all_true, any_true}
use Rattle.pl_eval.specs.Means.{first_filled, is_among, values}
use Rattle.pl_eval.proofs.Walks.{refuses_along, moved, not_then, not_else, all_goes_on, all_ends}
use Rattle.pl_eval.proofs.Walks.{all_stops, all_over, any_goes_on, any_ends, any_stops, any_over}
use Rattle.pl_eval.proofs.Walks.{filled_goes_on, filled_ends, filled_stops, filled_over}
use Rattle.pl_eval.proofs.Walks.{among_goes_on, among_ends, among_stops, among_passes, among_over}
use Rattle.pl_eval.proofs.Walks.{among_whole, values_begin, values_go_on, values_pass, values_stop}
use Rattle.pl_eval.proofs.Walks.{values_over, argument_there, argument_missing}
use Rattle.pl_eval.proofs.evaluate.+evaluation.Goals as goal
use Rattle.pl_eval.proofs.evaluate.+evaluation.Goals.{is_first_among-then-index-gt0+in_ok-node+in_ok-same+else-same, is_first_among-else-index-gt0, evaluate_all-then-index-count+in_ok-node+in_ok-push, evaluate_all-else-index-count}

pub are_all_true-returns-in_err-node : goal.are_all_true-returns-in_err-node
are_all_true-returns-in_err-node g t c =
    let p = err_from_is_err_and c.from_residual.result c.from_residual.ensures.1 in
    rw (p.1, p.2)
    (refuses_along _ _ _
    (λ code fault. moved
    (λ xs. all_true
    (filled c.args.here.now 2 (map (means (g.N.Names.known c.args.names.now) c.args.here.now)
    xs))) c.args.arguments.now c.as_slice-expr-items.result.now (Err code)
    c.as_slice-expr-items.ensures
    (all_stops (means (g.N.Names.known c.args.names.now) c.args.here.now)
    c.as_slice-expr-items.result.now c.loop-expr.expr-index c.expr-item.result c.args.here.now
    code c.loop-expr-test.true c.expr-item.is c.loop-expr.invariant fault))
    c.in_err-node.ensures)

pub are_all_true-returns-then-not-to_bool : goal.are_all_true-returns-then-not-to_bool
are_all_true-returns-then-not-to_bool g t c =
    moved
    (λ xs. all_true
    (filled c.args.here.now 2 (map (means (g.N.Names.known c.args.names.now) c.args.here.now)
    xs))) c.args.arguments.now c.as_slice-expr-items.result.now (Ok _)
    c.as_slice-expr-items.ensures
    (all_ends (means (g.N.Names.known c.args.names.now) c.args.here.now)
    c.as_slice-expr-items.result.now c.loop-expr.expr-index c.expr-item.result c.args.here.now
    c.in_ok-node.node c.loop-expr-test.true c.expr-item.is c.in_ok-node.ensures
    (sym c.to_bool.ensures ∙ c.if-not-to_bool.true) c.loop-expr.invariant)

pub are_all_true-loop-expr-preserved : goal.are_all_true-loop-expr-preserved
are_all_true-loop-expr-preserved g t c =
    all_goes_on (means (g.N.Names.known c.args.names.now) c.args.here.now)
    c.as_slice-expr-items.result.now c.loop-expr.expr-index c.expr-item.result c.in_ok-node.node
    c.loop-expr-test.true c.expr-item.is c.in_ok-node.ensures (sym c.to_bool.ensures ∙
    c.if-not-to_bool.false) c.loop-expr.invariant

pub are_all_true-returns : goal.are_all_true-returns
are_all_true-returns g t c =
    rw (c.len.ensures, ← c.as_slice-expr-items.ensures)
    (all_over (means (g.N.Names.known c.args.names.now) c.args.here.now)
    c.as_slice-expr-items.result.now c.loop-expr.expr-index c.args.here.now
    c.loop-expr-test.false c.loop-expr.invariant)

pub is_any_true-returns-in_err-node : goal.is_any_true-returns-in_err-node
is_any_true-returns-in_err-node g t c =
    let p = err_from_is_err_and c.from_residual.result c.from_residual.ensures.1 in
    rw (p.1, p.2)
    (refuses_along _ _ _
    (λ code fault. moved
    (λ xs. any_true (map (means (g.N.Names.known c.args.names.now) c.args.here.now) xs))
    c.args.arguments.now c.as_slice-expr-items.result.now (Err code)
    c.as_slice-expr-items.ensures
    (any_stops (means (g.N.Names.known c.args.names.now) c.args.here.now)
    c.as_slice-expr-items.result.now c.loop-expr.expr-index c.expr-item.result code
    c.loop-expr-test.true c.expr-item.is c.loop-expr.invariant fault)) c.in_err-node.ensures)

pub is_any_true-returns-then-to_bool : goal.is_any_true-returns-then-to_bool
is_any_true-returns-then-to_bool g t c =
    moved (λ xs. any_true (map (means (g.N.Names.known c.args.names.now) c.args.here.now) xs))
    c.args.arguments.now c.as_slice-expr-items.result.now (Ok _) c.as_slice-expr-items.ensures
    (any_ends (means (g.N.Names.known c.args.names.now) c.args.here.now)
    c.as_slice-expr-items.result.now c.loop-expr.expr-index c.expr-item.result c.in_ok-node.node
    c.loop-expr-test.true c.expr-item.is c.in_ok-node.ensures (sym c.to_bool.ensures ∙
    c.if-to_bool.true) c.loop-expr.invariant)

pub is_any_true-loop-expr-preserved : goal.is_any_true-loop-expr-preserved
is_any_true-loop-expr-preserved g t c =
    any_goes_on (means (g.N.Names.known c.args.names.now) c.args.here.now)
    c.as_slice-expr-items.result.now c.loop-expr.expr-index c.expr-item.result c.in_ok-node.node
    c.loop-expr-test.true c.expr-item.is c.in_ok-node.ensures (sym c.to_bool.ensures ∙
    c.if-to_bool.false) c.loop-expr.invariant

pub is_any_true-returns : goal.is_any_true-returns
is_any_true-returns g t c =
    moved (λ xs. any_true (map (means (g.N.Names.known c.args.names.now) c.args.here.now) xs))
    c.args.arguments.now c.as_slice-expr-items.result.now (Ok _) c.as_slice-expr-items.ensures
    (any_over (means (g.N.Names.known c.args.names.now) c.args.here.now)
    c.as_slice-expr-items.result.now c.loop-expr.expr-index c.loop-expr-test.false
    c.loop-expr.invariant)

pub coalesce-returns-in_err-node : goal.coalesce-returns-in_err-node
coalesce-returns-in_err-node g t c =
    let p = err_from_is_err_and c.from_residual.result c.from_residual.ensures.1 in
    rw (p.1, p.2)
    (refuses_along _ _ _
    (λ code fault. moved
    (λ xs. first_filled c.args.here.now
    (map (means (g.N.Names.known c.args.names.now) c.args.here.now) xs)) c.args.arguments.now
    c.as_slice-expr-items.result.now (Err code) c.as_slice-expr-items.ensures
    (filled_stops (means (g.N.Names.known c.args.names.now) c.args.here.now)
    c.as_slice-expr-items.result.now c.loop-expr.expr-index c.expr-item.result c.args.here.now
    code c.loop-expr-test.true c.expr-item.is c.loop-expr.invariant fault))
    c.in_err-node.ensures)

pub coalesce-returns-then-is_filled : goal.coalesce-returns-then-is_filled
coalesce-returns-then-is_filled g t c =
    moved
    (λ xs. first_filled c.args.here.now
    (map (means (g.N.Names.known c.args.names.now) c.args.here.now) xs)) c.args.arguments.now
    c.as_slice-expr-items.result.now (Ok c.in_ok-node.node) c.as_slice-expr-items.ensures
    (filled_ends (means (g.N.Names.known c.args.names.now) c.args.here.now)
    c.as_slice-expr-items.result.now c.loop-expr.expr-index c.expr-item.result c.args.here.now
    c.in_ok-node.node c.loop-expr-test.true c.expr-item.is c.in_ok-node.ensures
    (not_then _ _ c.is_filled.ensures c.if-is_filled.true) c.loop-expr.invariant)

pub coalesce-loop-expr-preserved : goal.coalesce-loop-expr-preserved
coalesce-loop-expr-preserved g t c =
    filled_goes_on (means (g.N.Names.known c.args.names.now) c.args.here.now)
    c.as_slice-expr-items.result.now c.loop-expr.expr-index c.expr-item.result c.args.here.now
    c.in_ok-node.node c.loop-expr-test.true c.expr-item.is c.in_ok-node.ensures
    (not_else _ _ c.is_filled.ensures c.if-is_filled.false) c.loop-expr.invariant

pub coalesce-returns : goal.coalesce-returns
coalesce-returns g t c =
    rw c.in_ok-make.ensures
    (moved
    (λ xs. first_filled c.args.here.now
    (map (means (g.N.Names.known c.args.names.now) c.args.here.now) xs)) c.args.arguments.now
    c.as_slice-expr-items.result.now (Ok _) c.as_slice-expr-items.ensures
    (filled_over (means (g.N.Names.known c.args.names.now) c.args.here.now)
    c.as_slice-expr-items.result.now c.loop-expr.expr-index c.args.here.now
    c.loop-expr-test.false c.loop-expr.invariant))

pub is_first_among-returns-in_err-node : goal.is_first_among-returns-in_err-node
is_first_among-returns-in_err-node g t c =
    let p = err_from_is_err_and c.from_residual-in_err-node.result
    c.from_residual-in_err-node.ensures.1 in
    rw (p.1, p.2)
    (refuses_along _ _ _
    (λ code fault. among_whole (means (g.N.Names.known c.args.names.now) c.args.here.now)
    c.args.here.now c.args.arguments.now c.as_slice-expr-items.result.now c.in_ok-sought.sought
    (Err code) c.as_slice-expr-items.ensures c.in_ok-sought.ensures
    (among_stops (means (g.N.Names.known c.args.names.now) c.args.here.now)
    c.as_slice-expr-items.result.now c.loop-index.index c.expr-item.result
    c.in_ok-sought.sought.value (is_among c.in_ok-sought.sought.value
    (drop 1 (map (means (g.N.Names.known c.args.names.now) c.args.here.now)
    c.as_slice-expr-items.result.now))) code c.if-index-gt0.true c.loop-index-test.true
    c.expr-item.is c.loop-index.invariant fault)) c.in_err-node.ensures)

pub is_first_among-returns-then-same : goal.is_first_among-returns-then-same
is_first_among-returns-then-same g t c =
    among_whole (means (g.N.Names.known c.args.names.now) c.args.here.now) c.args.here.now
    c.args.arguments.now c.as_slice-expr-items.result.now c.in_ok-sought.sought (Ok _)
    c.as_slice-expr-items.ensures c.in_ok-sought.ensures
    (among_ends (means (g.N.Names.known c.args.names.now) c.args.here.now)
    c.as_slice-expr-items.result.now c.loop-index.index c.expr-item.result
    c.in_ok-sought.sought.value (is_among c.in_ok-sought.sought.value
    (drop 1 (map (means (g.N.Names.known c.args.names.now) c.args.here.now)
    c.as_slice-expr-items.result.now))) c.in_ok-node.node c.if-index-gt0.true
    c.loop-index-test.true c.expr-item.is c.in_ok-node.ensures (sym c.in_ok-same.ensures ∙
    c.if-same.true) c.loop-index.invariant)

pub is_first_among-loop-index-preserved : goal.is_first_among-loop-index-preserved
is_first_among-loop-index-preserved g t c =
    elim c.if-index-gt0.branch [
      | is_first_among-then-index-gt0+in_ok-node+in_ok-same+else-same w ↦
          among_goes_on (means (g.N.Names.known c.args.names.now) c.args.here.now)
          c.as_slice-expr-items.result.now c.loop-index.index c.expr-item.result
          c.in_ok-sought.sought.value (is_among c.in_ok-sought.sought.value
          (drop 1 (map (means (g.N.Names.known c.args.names.now) c.args.here.now)
          c.as_slice-expr-items.result.now))) w.in_ok-node.node w.if-index-gt0.true
          c.loop-index-test.true c.expr-item.is w.in_ok-node.ensures (sym w.in_ok-same.ensures ∙
          w.if-same.false) c.loop-index.invariant
      | is_first_among-else-index-gt0 w ↦
          among_passes (means (g.N.Names.known c.args.names.now) c.args.here.now)
          c.as_slice-expr-items.result.now c.loop-index.index c.in_ok-sought.sought.value
          (is_among c.in_ok-sought.sought.value
          (drop 1 (map (means (g.N.Names.known c.args.names.now) c.args.here.now)
          c.as_slice-expr-items.result.now))) w.if-index-gt0.false c.loop-index.invariant
    ]

pub is_first_among-returns : goal.is_first_among-returns
is_first_among-returns g t c =
    among_whole (means (g.N.Names.known c.args.names.now) c.args.here.now) c.args.here.now
    c.args.arguments.now c.as_slice-expr-items.result.now c.in_ok-sought.sought (Ok _)
    c.as_slice-expr-items.ensures c.in_ok-sought.ensures
    (among_over (means (g.N.Names.known c.args.names.now) c.args.here.now)
    c.as_slice-expr-items.result.now c.loop-index.index c.in_ok-sought.sought.value
    (is_among c.in_ok-sought.sought.value
    (drop 1 (map (means (g.N.Names.known c.args.names.now) c.args.here.now)
    c.as_slice-expr-items.result.now))) c.loop-index-test.false c.loop-index.invariant)

pub evaluate_all-loop-index-init : goal.evaluate_all-loop-index-init
evaluate_all-loop-index-init g t c =
    rw c.new-nodes.ensures (values_begin (means (g.N.Names.known c.args.names.now) c.args.here.now)
    c.as_slice-expr-items.result.now (most_of c.args.function) c.count_of-count.result
    (c.count_of-count.ensures ∙
    ap (λ (xs : List Expr). counted (most_of c.args.function) (length xs))
    (sym c.as_slice-expr-items.ensures)))

pub evaluate_all-returns-in_err-node : goal.evaluate_all-returns-in_err-node
evaluate_all-returns-in_err-node g t c =
    let p = err_from_is_err_and c.from_residual.result c.from_residual.ensures.1 in
    rw (p.1, p.2)
    (refuses_along _ _ _
    (λ code fault. moved
    (λ xs. values
    (up_to (most_of c.args.function)
    (map (means (g.N.Names.known c.args.names.now) c.args.here.now) xs))) c.args.arguments.now
    c.as_slice-expr-items.result.now (Err code) c.as_slice-expr-items.ensures
    (values_stop (means (g.N.Names.known c.args.names.now) c.args.here.now)
    c.as_slice-expr-items.result.now c.loop-index.index c.count_of-count.result
    c.expr-item.result c.loop-index.nodes
    (values
    (up_to (most_of c.args.function)
    (map (means (g.N.Names.known c.args.names.now) c.args.here.now)
    c.as_slice-expr-items.result.now))) code c.if-index-count.true c.loop-index-test.true
    c.expr-item.is c.loop-index.invariant fault)) c.in_err-node.ensures)

pub evaluate_all-loop-index-preserved : goal.evaluate_all-loop-index-preserved
evaluate_all-loop-index-preserved g t c =
    elim c.if-index-count.branch [
      | evaluate_all-then-index-count+in_ok-node+in_ok-push w ↦
          values_go_on (means (g.N.Names.known c.args.names.now) c.args.here.now)
          c.as_slice-expr-items.result.now c.loop-index.index c.count_of-count.result
          c.expr-item.result w.in_ok-node.node c.loop-index.nodes c.if-index-count.nodes
          (values
          (up_to (most_of c.args.function)
          (map (means (g.N.Names.known c.args.names.now) c.args.here.now)
          c.as_slice-expr-items.result.now))) w.if-index-count.true c.loop-index-test.true
          c.expr-item.is w.in_ok-node.ensures (w.nodes-is ∙ w.in_ok-push.ensures.ok)
          c.loop-index.invariant
      | evaluate_all-else-index-count w ↦
          values_pass (means (g.N.Names.known c.args.names.now) c.args.here.now)
          c.as_slice-expr-items.result.now c.loop-index.index c.count_of-count.result
          c.loop-index.nodes c.if-index-count.nodes
          (values
          (up_to (most_of c.args.function)
          (map (means (g.N.Names.known c.args.names.now) c.args.here.now)
          c.as_slice-expr-items.result.now))) w.if-index-count.false w.nodes-is
          c.loop-index.invariant
    ]

pub evaluate_all-returns : goal.evaluate_all-returns
evaluate_all-returns g t c =
    moved
    (λ xs. values
    (up_to (most_of c.args.function)
    (map (means (g.N.Names.known c.args.names.now) c.args.here.now) xs))) c.args.arguments.now
    c.as_slice-expr-items.result.now (Ok c.loop-index.nodes) c.as_slice-expr-items.ensures
    (values_over (means (g.N.Names.known c.args.names.now) c.args.here.now)
    c.as_slice-expr-items.result.now c.loop-index.index c.count_of-count.result
    c.loop-index.nodes
    (values
    (up_to (most_of c.args.function)
    (map (means (g.N.Names.known c.args.names.now) c.args.here.now)
    c.as_slice-expr-items.result.now))) c.loop-index-test.false c.loop-index.invariant)

pub evaluate_argument-returns-in-Some : goal.evaluate_argument-returns-in-Some
evaluate_argument-returns-in-Some g t c =
    subst (λ (m : Meaning). Gives c.evaluate.result m)
    (sym (argument_there (means (g.N.Names.known c.args.names.now) c.args.here.now)
    c.args.here.now c.args.arguments.now c.args.at c.in-Some.expr.now c.in-Some.ensures.value))
    c.evaluate.ensures

pub evaluate_argument-returns-in_ok-make-in-None : goal.evaluate_argument-returns-in_ok-make-in-None
evaluate_argument-returns-in_ok-make-in-None g t c =
    argument_missing (means (g.N.Names.known c.args.names.now) c.args.here.now) c.args.here.now
    c.args.arguments.now c.args.at c.in-None.ensures.value ∙ ap (λ (n : MarkedNode). Ok n)
    (sym c.in_ok-make-in-None.ensures)
