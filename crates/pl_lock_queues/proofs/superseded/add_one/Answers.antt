use Rattle.std.proofs.Common.{◌≡◌, true, inl, ⊎_elim, sym, ◌∙◌}
use Rattle.std.proofs.lemmas.Bool.{false≢true}
use Rattle.std.specs.BTreeSet.{contains}
use Rattle.pl_locks.specs.Locks.{GivesWay}
use Rattle.pl_lock_queues.specs.Queues.{Place, place_cmp, place_of}
use Rattle.pl_lock_queues.proofs.Retained.{put_in, with_it}
use Rattle.pl_lock_queues.proofs.superseded.add_one.Goals as goal

pub returns-then-not-gives_way-clause-ok : goal.returns-then-not-gives_way-clause-ok
returns-then-not-gives_way-clause-ok c = λ p. (
  λ h. inl h,
  λ h. ⊎_elim (λ was. was)
      (λ (at, gives). absurd (false≢true (sym c.if-not-gives_way.true ∙ c.gives_way.ensures.1 gives)))
      h,
)

pub returns-clause-ok : goal.returns-clause-ok
returns-clause-ok c =
    let updates = rw c.place_of.ensures at c.in_ok-insert.ensures.updates in
    with_it (place_of c.args.stage.now)
    (λ (p : Place). contains place_cmp c.args.superseded.now p ≡ true)
    (λ (p : Place). contains place_cmp c.insert.new.self p ≡ true)
    (GivesWay c.args.stage.now c.args.later.now) (c.gives_way.ensures.0 c.if-not-gives_way.false)
    (put_in (place_of c.args.stage.now) c.args.superseded.now c.insert.new.self
    (λ p. updates.0 p))
