use Rattle.pl_lock_queues.specs.Queues.{place_of}
use Rattle.pl_lock_queues.proofs.Changed.{dismissed}
use Rattle.pl_lock_queues.proofs.Retained.{taken_out}
use Rattle.pl_lock_queues.proofs.admitting.dismiss.Goals as goal

pub returns : goal.returns
returns c = λ before ordered there is are.
    let updates = rw c.place_of.ensures at c.remove.ensures.updates in
    let out = taken_out (place_of c.args.stage.now) c.args.superseded.now c.remove.new.self
    (λ p. updates.0 p) in
    dismissed before c.args.eligible.now c.args.stage.now c.args.lines.now.lines
    c.take_out.new.lines.lines c.args.free.now c.take_out.new.free c.args.superseded.now
    c.keep_giving_way.new.superseded ordered there is are c.take_out.ensures.lines
    c.take_out.ensures.free
    (λ p. (
      λ h. let (some, which) = (c.keep_giving_way.ensures p).0 h in ((out p).0 some, which),
      λ (some, which). (c.keep_giving_way.ensures p).1 ((out p).1 some, which),
    ))
