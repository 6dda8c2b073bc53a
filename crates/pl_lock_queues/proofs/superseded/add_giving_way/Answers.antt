use Rattle.std.proofs.Common.{◌≡◌, true, inl, inr, ⊎_elim}
use Rattle.std.proofs.lemmas.Result.{on_ok_weaker}
use Rattle.std.specs.BTreeSet.{contains}
use Rattle.pl_lock_queues.specs.Queues.{Place, place_cmp}
use Rattle.pl_lock_queues.proofs.Retained.{all_three, only_superseded}
use Rattle.pl_lock_queues.proofs.superseded.add_giving_way.Goals as goal

pub add_own-requires-clause-among : goal.add_own-requires-clause-among
add_own-requires-clause-among c = λ p it.
    (c.in-Ok.ensures.ok p).1 (inl ((c.requires.giving_way p).1 it))

pub add_own-requires-clause-only : goal.add_own-requires-clause-only
add_own-requires-clause-only c = λ p h.
    ⊎_elim (λ was. inl ((c.requires.giving_way p).0 was)) (λ gives. inr gives)
    ((c.in-Ok.ensures.ok p).0 h)

pub returns-in-Ok-clause-ok : goal.returns-in-Ok-clause-ok
returns-in-Ok-clause-ok c =
    on_ok_weaker c.add_own.result (all_three c.args.eligible.now c.args.stage.now
    (λ (p : Place). contains place_cmp c.args.superseded.now p ≡ true)
    (λ (p : Place). contains place_cmp c.add_earlier.new.superseded p ≡ true)
    (λ (p : Place). contains place_cmp c.add_own.new.superseded p ≡ true)
    c.in-Ok.ensures.ok) c.add_own.ensures.ok

pub returns-in-Err-clause-err : goal.returns-in-Err-clause-err
returns-in-Err-clause-err c =
    only_superseded c.args.eligible.now c.args.stage.now
    (λ (p : Place). contains place_cmp c.add_earlier.new.superseded p ≡ true)
    (λ (p : Place). contains place_cmp c.keep_giving_way.new.superseded p ≡ true)
    (λ p it. (c.in-Err.ensures.err p).0 ((c.requires.giving_way p).1 it))
    (λ p h. ⊎_elim (λ was. inl ((c.requires.giving_way p).0 was)) (λ gives. inr gives)
    ((c.in-Err.ensures.err p).1 h))
    c.keep_giving_way.ensures
