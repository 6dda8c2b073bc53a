use Rattle.std.proofs.Common.{◌++◌, ap, sym, ◌∙◌}
use Rattle.std.proofs.lemmas.Result.{on_ok_weaker}
use Rattle.pl_expr.proofs.Quotes.{quoted_plain, writing_goes_on}
use Rattle.pl_expr.proofs.printing.push_quoted.Goals as goal

pub loop-piece-preserved : goal.loop-piece-preserved
loop-piece-preserved c = record {
  utf8 = c.whole-rest.utf8;
  writing = writing_goes_on _ c.loop-piece.text c.loop-piece.rest.now _ _ _ _ _
      c.loop-piece.invariant.writing c.in-Some.ensures.within c.in-Some.ensures.front
      c.in-Some.ensures.behind c.in_ok-push_str.ensures.ok c.in_ok-push_str-2.ensures.ok
      c.whole-rest.ensures;
}

pub returns : goal.returns
returns c =
    on_ok_weaker c.push_str-2.result (λ pushed. pushed ∙
    (ap (λ xs. c.loop-piece.text ++ xs)
    (sym (quoted_plain c.loop-piece.rest.now c.in_default.ensures.none)) ∙
    c.loop-piece.invariant.writing)) c.push_str-2.ensures.ok
