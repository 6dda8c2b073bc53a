use Rattle.std.proofs.Common.{ap, sym, ◌∙◌}
use Rattle.pl_expr.proofs.Quotes.{with_front, unquoted_none, reading_ends, reading_goes_on}
use Rattle.pl_expr.proofs.scan.read_quoted.Goals as goal

pub returns-then-not-begins_with : goal.returns-then-not-begins_with
returns-then-not-begins_with c = reading_ends c.args.text.now c.loop-piece.rest.now
    c.loop-piece.content _ _ _ c.loop-piece.invariant.reading c.in-Some.ensures.within
    c.in-Some.ensures.front c.in-Some.ensures.behind (sym c.if-not-begins_with.ensures)
    c.in_ok-push_str.ensures.ok

pub loop-piece-preserved : goal.loop-piece-preserved
loop-piece-preserved c = record {
  text = c.skip_byte-rest.utf8;
  reading = reading_goes_on c.args.text.now c.loop-piece.rest.now c.loop-piece.content _ _ _ _ _
      c.loop-piece.invariant.reading c.in-Some.ensures.within c.in-Some.ensures.front
      c.in-Some.ensures.behind (sym c.if-not-begins_with.ensures) c.in_ok-push_str.ensures.ok
      c.in_ok-push_str-2.ensures.ok c.skip_byte-rest.ensures;
}

pub returns : goal.returns
returns c =
    sym (ap (with_front c.loop-piece.content) (unquoted_none c.loop-piece.rest.now
    c.in_default.ensures.none)) ∙ c.loop-piece.invariant.reading
