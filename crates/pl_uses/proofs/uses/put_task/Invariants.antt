use Rattle.std.proofs.Common.{◌≡◌, drop}
use Rattle.std.specs.Prelude.{flat_map}
use Rattle.pl_uses.specs.Uses.{kept, put_all, task_uses}
use Rattle.pl_uses.proofs.uses.put_task.Given as goal

abbrev pub invariant-loop-pair : goal.invariant-loop-pair
invariant-loop-pair l = put_all (kept l.uses) (flat_map task_uses (drop l.pair-index l.pairs)) ≡
    put_all (kept l.initial.uses) (flat_map task_uses l.pairs)
