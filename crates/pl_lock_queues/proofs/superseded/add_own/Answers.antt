use Rattle.std.proofs.Common.{◌≡◌, true, ap, sym, ◌∙◌}
use Rattle.std.proofs.lemmas.Bool.{false≢true}
use Rattle.std.specs.BTreeSet.{contains}
use Rattle.std.specs.List.{list_any}
use Rattle.std.specs.BTreeMap.{is_at}
use Rattle.pl_locks.specs.Locks.{IsSuperseded}
use Rattle.pl_lock_queues.specs.Queues.{Place, place_cmp, place_of}
use Rattle.pl_lock_queues.proofs.Retained.{not_own, only_superseded, put_in, with_it}
use Rattle.pl_lock_queues.proofs.superseded.add_own.Goals as goal

pub returns-then-not-is_superseded-clause-ok : goal.returns-then-not-is_superseded-clause-ok
returns-then-not-is_superseded-clause-ok c =
    not_own c.args.eligible.now c.args.stage.now
    (λ (p : Place). contains place_cmp c.args.superseded.now p ≡ true)
    (λ gives. false≢true (sym c.if-not-is_superseded.true ∙ c.is_superseded.ensures.1 gives))

pub returns-in-Ok-clause-ok : goal.returns-in-Ok-clause-ok
returns-in-Ok-clause-ok c =
    let updates = rw c.place_of.ensures at c.in-Ok.ensures.updates in
    with_it (place_of c.args.stage.now)
    (λ (p : Place). contains place_cmp c.args.superseded.now p ≡ true)
    (λ (p : Place). contains place_cmp c.insert.new.self p ≡ true)
    (IsSuperseded c.args.eligible.now c.args.stage.now)
    (c.is_superseded.ensures.0 c.if-not-is_superseded.false)
    (put_in (place_of c.args.stage.now) c.args.superseded.now c.insert.new.self
    (λ p. updates.0 p))

-- after an insertion that failed the keys are as before
pub returns-in-Err-clause-err : goal.returns-in-Err-clause-err
returns-in-Err-clause-err c =
    let same = λ (p : Place). ap (list_any (is_at (place_cmp p))) c.in-Err.ensures.err in
    only_superseded c.args.eligible.now c.args.stage.now
    (λ (p : Place). contains place_cmp c.insert.new.self p ≡ true)
    (λ (p : Place). contains place_cmp c.keep_giving_way.new.superseded p ≡ true)
    (λ p it. same p ∙ c.requires.among p it)
    (λ p h. c.requires.only p (sym (same p) ∙ h))
    c.keep_giving_way.ensures
