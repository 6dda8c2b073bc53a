use Rattle.std.proofs.Common.{◌≡◌, take}
use Rattle.pl_lock_queues.proofs.queues.LockQueues.enter_all.Given as goal

abbrev pub invariant-loop-stage : goal.invariant-loop-stage
invariant-loop-stage l = record {
  copied : l.self.eligible ≡ take l.stage-index l.stages;
  others : l.self.holders ≡ l.fn.self.holders;
}
