use Rattle.pl_template.proofs.Pieces.{goes_on, breaks_off, ends}
use Rattle.pl_template.proofs.cutting.pieces_of.Goals as goal

pub returns-in_default-split_closing : goal.returns-in_default-split_closing
returns-in_default-split_closing c =
    breaks_off _ _ _ _ _ c.in-Some.ensures.cases c.in_default-split_closing.ensures
    c.loop-front.invariant.made

pub loop-front-preserved : goal.loop-front-preserved
loop-front-preserved c = record {
  text = c.whole-rest.utf8;
  made = goes_on _ _ _ _ _ _ _ _ _ _ c.in-Some.ensures.cases c.in-Some-split_closing.ensures
      c.in_ok-put_literal.ensures c.in_ok-put_expression.ensures c.whole-rest.ensures
      c.loop-front.invariant.made;
}

pub returns : goal.returns
returns c =
    ends _ _ _ _ c.in_default.ensures.cases c.in_ok-put_literal-2.ensures
    c.loop-front.invariant.made
