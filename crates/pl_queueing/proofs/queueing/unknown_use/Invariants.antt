use Rattle.std.proofs.Common.{◌≡◌, drop, flat_map}
use Rattle.std.specs.List.{find}
use Rattle.pl_queueing.specs.Queueing.{is_unknown, unknown_use}
use Rattle.pl_queueing.proofs.queueing.unknown_use.Given as goal

abbrev pub invariant-loop-planned : goal.invariant-loop-planned
invariant-loop-planned l =
    unknown_use l.journal.facts l.stages
    ≡ find (is_unknown l.journal.facts)
    (flat_map (λ planned. planned.uses) (drop l.planned-index l.stages))
