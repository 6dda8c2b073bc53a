use Rattle.pl_locks.proofs.Progress.{progress}
use Rattle.pl_lock_queues.proofs.Starting.{none_gives, some_else, some_told, told}
use Rattle.pl_lock_queues.proofs.queues.LockQueues.next.Goals as goal

pub returns-then-is_empty-clause-next : goal.returns-then-is_empty-clause-next
returns-then-is_empty-clause-next c =
    let it = c.self.inside in
    let stand = none_gives it.eligible.items it.queues.superseded c.self.invariant.1.0.giving_way
    (c.is_empty.ensures.0 c.if-is_empty.true) in
    rw (← c.self.view_is) (told it.eligible.items it.holders.items it.queues.lines.lines
    it.queues.marks it.queues.free it.queues.superseded stand c.self.invariant.1.0
    c.self.invariant.1.2 c.least_unblocked.result
    (rw c.deref.ensures.value at c.least_unblocked.ensures.is) c.least_unblocked.ensures.free
    (rw c.deref.ensures.value at c.least_unblocked.ensures.unblocked))

pub returns-then-is_empty-clause-some : goal.returns-then-is_empty-clause-some
returns-then-is_empty-clause-some c =
    let it = c.self.inside in
    let stand = none_gives it.eligible.items it.queues.superseded c.self.invariant.1.0.giving_way
    (c.is_empty.ensures.0 c.if-is_empty.true) in
    rw (← c.self.view_is) (some_told it.eligible.items it.holders.items c.least_unblocked.result _
    (told it.eligible.items it.holders.items it.queues.lines.lines
    it.queues.marks it.queues.free it.queues.superseded stand c.self.invariant.1.0
    c.self.invariant.1.2 c.least_unblocked.result
    (rw c.deref.ensures.value at c.least_unblocked.ensures.is) c.least_unblocked.ensures.free
    (rw c.deref.ensures.value at c.least_unblocked.ensures.unblocked)))

pub returns-then-is_empty-clause-progress : goal.returns-then-is_empty-clause-progress
returns-then-is_empty-clause-progress c =
    let it = c.self.inside in
    let stand = none_gives it.eligible.items it.queues.superseded c.self.invariant.1.0.giving_way
    (c.is_empty.ensures.0 c.if-is_empty.true) in
    rw (← c.self.view_is) (λ some unheld.
    some_else it.eligible.items it.holders.items c.least_unblocked.result _
    (told it.eligible.items it.holders.items it.queues.lines.lines
    it.queues.marks it.queues.free it.queues.superseded stand c.self.invariant.1.0
    c.self.invariant.1.2 c.least_unblocked.result
    (rw c.deref.ensures.value at c.least_unblocked.ensures.is) c.least_unblocked.ensures.free
    (rw c.deref.ensures.value at c.least_unblocked.ensures.unblocked))
    (λ none. progress it.eligible.items it.holders.items c.self.invariant.0.0 some unheld none))

pub returns-else-is_empty-clause-next : goal.returns-else-is_empty-clause-next
returns-else-is_empty-clause-next c =
    rw (
      ← c.self.view_is,
      ← c.deref-else-is_empty.ensures.value,
      ← c.deref-else-is_empty-2.ensures.value,
    ) c.next_of.ensures.next

pub returns-else-is_empty-clause-some : goal.returns-else-is_empty-clause-some
returns-else-is_empty-clause-some c =
    rw (
      ← c.self.view_is,
      ← c.deref-else-is_empty.ensures.value,
      ← c.deref-else-is_empty-2.ensures.value,
    ) c.next_of.ensures.some

pub returns-else-is_empty-clause-progress : goal.returns-else-is_empty-clause-progress
returns-else-is_empty-clause-progress c =
    rw (
      ← c.self.view_is,
      ← c.deref-else-is_empty.ensures.value,
      ← c.deref-else-is_empty-2.ensures.value,
    ) c.next_of.ensures.progress
