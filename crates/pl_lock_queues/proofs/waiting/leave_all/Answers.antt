use Rattle.pl_lock_queues.proofs.waiting.leave_all.Goals as goal

pub returns : goal.returns
returns c = rw (c.as_slice.ensures, c.place_of.ensures) at c.take_all.ensures
