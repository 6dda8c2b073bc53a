use Rattle.std.proofs.Common.{◌≡◌, take}
use Rattle.pl_lock_queues.proofs.queues.LockQueues.join_all.Given as goal

abbrev pub invariant-loop-stage : goal.invariant-loop-stage
invariant-loop-stage l = record {
  copied : l.self.holders ≡ take l.stage-index l.stages;
  others : l.self.eligible ≡ l.fn.self.eligible;
}
