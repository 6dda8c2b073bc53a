use Rattle.std.proofs.Common.{◌≡◌, List, true, inl, inr, refl, rules, sym, subst, ⊎_elim}
use Rattle.std.proofs.lemmas.Map.Iter.{rest_all, rest_more}
use Rattle.std.specs.BTreeSet.{contains}
use Rattle.std.specs.List.{Contains}
use Rattle.std.specs.Map.Iter.{deref}
use Rattle.pl_lock_queues.specs.Queues.{Place, place_cmp}
use Rattle.pl_lock_queues.proofs.Bools.{on_err}
use Rattle.pl_lock_queues.proofs.Earlier.{none_left, one_less}
use Rattle.pl_lock_queues.proofs.Retained.{is_in}
use Rattle.pl_lock_queues.proofs.superseded.add_among.Goals as goal

pub loop-place-init : goal.loop-place-init
loop-place-init c =
    let start : c.into_iter-place-iterator.result ≡ c.args.line.now.keys = search rules in
    record {
      grown = λ p h. h;
      only = λ p h. inl h;
      gone = λ p gives. inl (subst (λ (l : List Place). Contains l p) (sym start)
          ((is_in c.args.line.now p).0 (c.requires.named p gives)));
    }

pub loop-place-preserved : goal.loop-place-preserved
loop-place-preserved c =
    let now = c.loop-place.invariant in
    let rest = rest_more (deref {X = Place}) c.loop-place.place-iterator c.next.new.self
    c.next.result c.in-Some.place c.in-Some.is c.next.ensures.steps in
    let step = c.in_ok-add_at.ensures.ok in
    record {
      grown = λ p h. (step p).1 (inl (now.grown p h));
      only = λ p h. ⊎_elim (λ was. now.only p was) (λ own. inr own.1) ((step p).0 h);
      gone = λ p gives.
          one_less c.in-Some.place.now p c.loop-place.place-iterator c.next.new.self
          (λ (q : Place). q ≡ p) (contains place_cmp c.add_at.new.superseded p ≡ true) rest refl
          (λ own. (step p).1 (inr (own, gives)))
          (⊎_elim (λ left. inl left) (λ in_it. inr ((step p).1 (inl in_it))) (now.gone p gives));
    }

pub returns-in_err-add_at-clause-err : goal.returns-in_err-add_at-clause-err
returns-in_err-add_at-clause-err c = on_err c.from_residual.result _ (λ p. (
  λ h. (c.in_err-add_at.ensures.err p).1 (c.loop-place.invariant.grown p h),
  λ h. c.loop-place.invariant.only p ((c.in_err-add_at.ensures.err p).0 h),
))

pub returns-clause-ok : goal.returns-clause-ok
returns-clause-ok c = λ p. (
  c.loop-place.invariant.only p,
  λ h. ⊎_elim (c.loop-place.invariant.grown p) (λ gives. none_left p c.loop-place.place-iterator
      (contains place_cmp c.loop-place.superseded p ≡ true)
      (rest_all (deref {X = Place}) c.loop-place.place-iterator c.next.new.self c.next.result
      c.in-None.is c.next.ensures.steps) (c.loop-place.invariant.gone p gives)) h,
)
