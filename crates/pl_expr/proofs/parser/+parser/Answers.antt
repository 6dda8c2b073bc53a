use Rattle.std.proofs.Common.{◌<◌, ◌≤◌, Ok, ap, sym, ◌∙◌, length, arith}
use Rattle.std.proofs.lemmas.Result.{err_from_is_err_and}
use Rattle.pl_expr.specs.Trees.{depth_of}
use Rattle.pl_expr.specs.Grammar.{inner_of, behind_argument}
use Rattle.pl_expr.proofs.Reading.{continues_end, continues_deep, continues_step, continues_stop}
use Rattle.pl_expr.proofs.Reading.{stops_of, inner_is, arguments_over, arguments_fault}
use Rattle.pl_expr.proofs.Reading.{arguments_refused, arguments_end, arguments_step}
use Rattle.pl_expr.proofs.parser.+parser.Goals as goal

pub read_tails-returns-then-not-begins_tail-clause-gives :
    goal.read_tails-returns-then-not-begins_tail-clause-gives
read_tails-returns-then-not-begins_tail-clause-gives t c =
    continues_end (inner_of c.args.mode c.args.depth) c.args.depth c.tails.tree.expr
    c.tails.rest.now _ _ c.tails.invariant.reading c.skip_blanks-here.ensures
    (sym c.if-not-begins_tail.ensures)

pub read_tails-returns-then-tree-depth-clause-gives :
    goal.read_tails-returns-then-tree-depth-clause-gives
read_tails-returns-then-tree-depth-clause-gives t c =
    let deep : c.args.depth ≤ depth_of c.tails.tree.expr = omega (arith, c.tails.tree.deep) in
    rw c.deep_stop.ensures (continues_deep (inner_of c.args.mode c.args.depth) c.args.depth
    c.tails.tree.expr c.tails.rest.now _ _ c.tails.invariant.reading c.skip_blanks-here.ensures
    (sym c.if-not-begins_tail.ensures) deep)

pub read_tails-returns-in_err-next-clause-gives : goal.read_tails-returns-in_err-next-clause-gives
read_tails-returns-in_err-next-clause-gives t c =
    let p = err_from_is_err_and c.from_residual.result c.from_residual.ensures.1 in
    let room : depth_of c.tails.tree.expr < c.args.depth = omega (arith, c.tails.tree.deep) in
    rw (p.1, p.2) (stops_of _ _ _ (λ fault. continues_stop (inner_of c.args.mode c.args.depth)
    c.args.depth c.tails.tree.expr c.tails.rest.now _ _ fault c.tails.invariant.reading
    c.skip_blanks-here.ensures (sym c.if-not-begins_tail.ensures) room)
    c.in_err-next.ensures.gives)

pub read_tails-tails-preserved : goal.read_tails-tails-preserved
read_tails-tails-preserved t c = record {
  text = c.whole-rest.utf8;
  reading =
      let room : depth_of c.tails.tree.expr < c.args.depth = omega (arith, c.tails.tree.deep) in
      let grown : depth_of c.tails.tree.expr < depth_of c.in_ok-next.next.expr =
      omega (arith, c.tails.tree.deep, c.in_ok-next.next.deep, c.in_ok-next.ensures.grown) in
      rw c.whole-rest.ensures (continues_step (inner_of c.args.mode c.args.depth) c.args.depth
      c.tails.tree.expr _ c.tails.rest.now _ _ _ c.tails.invariant.reading
      c.skip_blanks-here.ensures (sym c.if-not-begins_tail.ensures) room
      c.in_ok-next.ensures.gives grown);
  within = c.in_ok-next.ensures.within;
}

pub read_arguments-returns-in_err-argument-clause-gives :
    goal.read_arguments-returns-in_err-argument-clause-gives
read_arguments-returns-in_err-argument-clause-gives t c =
    let p = err_from_is_err_and c.from_residual.result c.from_residual.ensures.1 in
    rw (p.1, p.2)
    (stops_of _ _ _ (λ fault stopped. arguments_fault (inner_of c.args.mode c.args.depth)
    c.args.function (length c.args.text.now) c.loop-turn._turn c.loop-turn.arguments.list
    c.loop-turn.rest.now _ fault c.loop-turn-test.true c.loop-turn.invariant.reading
    (inner_is c.args.mode c.args.depth c.loop-turn.rest.now
    (omega (arith, c.loop-turn.invariant.within)) ∙ stopped)) c.in_err-argument.ensures.gives)

pub read_arguments-returns-in_err-more-clause-gives :
    goal.read_arguments-returns-in_err-more-clause-gives
read_arguments-returns-in_err-more-clause-gives t c =
    let p = err_from_is_err_and c.from_residual-in_err-more.result
    c.from_residual-in_err-more.ensures.1 in
    rw (p.1, p.2)
    (stops_of _ _ _ (λ fault stopped. arguments_refused (inner_of c.args.mode c.args.depth)
    c.args.function (length c.args.text.now) c.loop-turn._turn c.loop-turn.arguments.list
    c.push.new.self.list c.in_ok-argument.argument.expr c.loop-turn.rest.now
    c.in_ok-argument.behind.now _ fault c.loop-turn-test.true c.loop-turn.invariant.reading
    (inner_is c.args.mode c.args.depth c.loop-turn.rest.now
    (omega (arith, c.loop-turn.invariant.within)) ∙ c.in_ok-argument.ensures.gives)
    c.in_ok-push.ensures.list
    (ap (λ n. behind_argument c.args.function n c.in_ok-argument.behind.now)
    (sym c.len.ensures) ∙ stopped)) c.in_err-more.ensures)

pub read_arguments-returns-then-not-more-clause-gives :
    goal.read_arguments-returns-then-not-more-clause-gives
read_arguments-returns-then-not-more-clause-gives t c =
    arguments_end (inner_of c.args.mode c.args.depth) c.args.function (length c.args.text.now)
    c.loop-turn._turn c.loop-turn.arguments.list c.push.new.self.list
    c.in_ok-argument.argument.expr c.loop-turn.rest.now c.in_ok-argument.behind.now _ _
    c.loop-turn-test.true c.loop-turn.invariant.reading
    (inner_is c.args.mode c.args.depth c.loop-turn.rest.now
    (omega (arith, c.loop-turn.invariant.within)) ∙ c.in_ok-argument.ensures.gives)
    c.in_ok-push.ensures.list
    (ap (λ n. behind_argument c.args.function n c.in_ok-argument.behind.now)
    (sym c.len.ensures) ∙
    (c.in_ok-more.ensures ∙ ap (λ b. Ok (b, c.in_ok-more.next.now)) c.if-not-more.true))

pub read_arguments-loop-turn-preserved : goal.read_arguments-loop-turn-preserved
read_arguments-loop-turn-preserved t c = record {
  text = c.whole-rest.utf8;
  reading =
      rw c.whole-rest.ensures (arguments_step (inner_of c.args.mode c.args.depth) c.args.function
      (length c.args.text.now) c.loop-turn._turn c.loop-turn.arguments.list c.push.new.self.list
      c.in_ok-argument.argument.expr c.loop-turn.rest.now c.in_ok-argument.behind.now _ _
      c.loop-turn-test.true c.loop-turn.invariant.reading
      (inner_is c.args.mode c.args.depth c.loop-turn.rest.now
      (omega (arith, c.loop-turn.invariant.within)) ∙ c.in_ok-argument.ensures.gives)
      c.in_ok-push.ensures.list
      (ap (λ n. behind_argument c.args.function n c.in_ok-argument.behind.now)
      (sym c.len.ensures) ∙
      (c.in_ok-more.ensures ∙ ap (λ b. Ok (b, c.in_ok-more.next.now)) c.if-not-more.false)));
  within = omega (arith, c.in_ok-push.ensures.depth, c.in_ok-argument.ensures.within);
}

pub read_arguments-returns-clause-gives : goal.read_arguments-returns-clause-gives
read_arguments-returns-clause-gives t c =
    rw c.stop_at.ensures (arguments_over (inner_of c.args.mode c.args.depth) c.args.function
    (length c.args.text.now) c.loop-turn._turn c.loop-turn.arguments.list c.loop-turn.rest.now _
    (omega arith) c.loop-turn.invariant.reading)
