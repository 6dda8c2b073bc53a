use Rattle.std.proofs.Common.{◌==◌, ◌↔◌, ◌∙◌, [], ◌≡◌, length, subst}
use Rattle.std.specs.BTreeSet.{contains}
use Rattle.std.specs.Prelude.{IsTrue, Bool}
use Rattle.pl_lock_queues.specs.Queues.{is_here, place_cmp}
use Rattle.pl_lock_queues.proofs.Bools.{not_taken, taken_where}
use Rattle.pl_lock_queues.proofs.Changed.{wants_none, wants_some}
use Rattle.pl_lock_queues.proofs.admitting.take_free.Goals as goal

pub returns-then-not-is_empty : goal.returns-then-not-is_empty
returns-then-not-is_empty c = λ p.
    not_taken (length c.args.stage.now.resources == 0) (is_here p c.args.stage.now)
    (contains place_cmp c.args.free.now p)
    (wants_some c.args.stage.now (subst (λ (b : Bool). IsTrue b ↔ (c.args.stage.now.resources ≡ []))
    c.if-not-is_empty.true c.is_empty.ensures))

pub returns : goal.returns
returns c = λ p.
    let updates = rw c.place_of.ensures at c.remove.ensures.updates in
    updates.0 p
    ∙ taken_where (length c.args.stage.now.resources == 0) (is_here p c.args.stage.now)
    (contains place_cmp c.args.free.now p)
    (wants_none c.args.stage.now (subst (λ (b : Bool). IsTrue b ↔ (c.args.stage.now.resources ≡ []))
    c.if-not-is_empty.false c.is_empty.ensures))
