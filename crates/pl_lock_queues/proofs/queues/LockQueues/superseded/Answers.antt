use Rattle.std.proofs.Common.{refl}
use Rattle.std.proofs.lemmas.List.Elements.{Contains-get_or}
use Rattle.pl_lock_queues.proofs.Told.{never_in, not_before}
use Rattle.std.proofs.Common.{get_or}
use Rattle.pl_lock_queues.specs.Queues.{place_of}
use Rattle.pl_lock_queues.proofs.queues.LockQueues.superseded.Goals as goal

pub told_at-requires-clause-ordered : goal.told_at-requires-clause-ordered
told_at-requires-clause-ordered c = rw c.deref.ensures.value c.self.invariant.0.0

pub told_at-requires-clause-there : goal.told_at-requires-clause-there
told_at-requires-clause-there c = rw c.deref.ensures.value
    ((c.self.invariant.1.0.giving_way c.in-Some.place.now).0 c.in-Some.ensures.member)

pub told_at-requires-clause-least : goal.told_at-requires-clause-least
told_at-requires-clause-least c = rw c.deref.ensures.value
    (not_before c.self.inside.eligible.items c.self.inside.queues.superseded c.in-Some.place.now
    c.self.invariant.1.0.giving_way c.in-Some.ensures.least)

pub returns-in-Some : goal.returns-in-Some
returns-in-Some c = rw (← c.self.view_is, ← c.deref.ensures.value) c.told_at.ensures

pub returns-in-None : goal.returns-in-None
returns-in-None c = rw (← c.self.view_is) (λ k d below gives.
    let eligible = c.self.inside.eligible.items in
    let stage = get_or eligible k d in
    never_in c.self.inside.queues.superseded c.in-None.ensures.variant (place_of stage)
    ((c.self.invariant.1.0.giving_way (place_of stage)).1
    (stage, Contains-get_or eligible k d below, refl, gives)))
