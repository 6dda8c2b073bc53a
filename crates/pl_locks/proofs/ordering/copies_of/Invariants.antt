use Rattle.std.proofs.Common.{◌≡◌, ◌≤◌, take, vec_len}
use Rattle.std.specs.Vec.{vec_capacity}
use Rattle.pl_locks.proofs.ordering.copies_of.Given as goal

abbrev pub invariant-loop-stage : goal.invariant-loop-stage
invariant-loop-stage l = record {
  items : l.copies.items ≡ take l.stage-index l.stages;
  len : vec_len l.copies ≡ l.stage-index;
  room : l.room ≤ vec_capacity l.copies;
}
