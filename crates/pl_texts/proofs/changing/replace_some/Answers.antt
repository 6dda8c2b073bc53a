use Rattle.std.proofs.Common.{length, ap, arith}
use Rattle.std.proofs.lemmas.Result.{err_from_is_err_and}
use Rattle.pl_texts.proofs.Replacing.{replaced_some, past_front, past_new, goes_on, past_rest}
use Rattle.pl_texts.proofs.Replacing.{is_whole}
use Rattle.pl_texts.proofs.changing.replace_some.Goals as goal

pub loop-front-init : goal.loop-front-init
loop-front-init c = record {
  text = c.utf8.text;
  made = rw c.new-made.ensures (replaced_some c.args.text.now c.args.sought.now c.args.new.now
      c.requires);
  within = omega (arith, ap length c.new-made.ensures);
}

pub returns-in_err-push_bounded : goal.returns-in_err-push_bounded
returns-in_err-push_bounded c =
    let p = err_from_is_err_and c.from_residual.result c.from_residual.ensures.1 in
    rw (p.1, p.2) (past_front _ _ _ _ _ _ _ _ c.requires c.in-Some.ensures.cases
    c.loop-front.invariant.made c.in_err-push_bounded.ensures.err)

pub returns-in_err-push_bounded-2 : goal.returns-in_err-push_bounded-2
returns-in_err-push_bounded-2 c =
    let p = err_from_is_err_and c.from_residual-in_err-push_bounded-2.result
    c.from_residual-in_err-push_bounded-2.ensures.1 in
    rw (p.1, p.2) (past_new _ _ _ _ _ _ _ _ _ c.requires c.in-Some.ensures.cases
    c.loop-front.invariant.made c.in_ok-push_bounded.ensures.ok
    c.in_err-push_bounded-2.ensures.err)

pub loop-front-preserved : goal.loop-front-preserved
loop-front-preserved c = record {
  text = c.whole-rest.utf8;
  made = goes_on _ _ _ _ _ _ _ _ _ _ c.requires c.in-Some.ensures.cases c.loop-front.invariant.made
      c.in_ok-push_bounded.ensures.ok c.in_ok-push_bounded-2.ensures.ok c.whole-rest.ensures;
  within = c.in_ok-push_bounded-2.ensures.within;
}

pub returns-in_err-push_bounded-3 : goal.returns-in_err-push_bounded-3
returns-in_err-push_bounded-3 c =
    let p = err_from_is_err_and c.from_residual-in_err-push_bounded-3.result
    c.from_residual-in_err-push_bounded-3.ensures.1 in
    rw (p.1, p.2) (past_rest _ _ _ _ _ _ c.in_default.ensures.cases c.loop-front.invariant.made
    c.in_err-push_bounded-3.ensures.err)

pub returns : goal.returns
returns c = is_whole _ _ _ _ _ _ c.in_default.ensures.cases c.loop-front.invariant.made
    c.in_ok-push_bounded-3.ensures.ok c.in_ok-push_bounded-3.ensures.within
