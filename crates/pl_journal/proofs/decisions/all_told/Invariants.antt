use Rattle.std.proofs.Common.{◌≡◌, take}
use Rattle.std.specs.List.{flat_map}
use Rattle.pl_journal.specs.Runs.{decided}
use Rattle.pl_journal.proofs.decisions.all_told.Given as goal

abbrev pub invariant-loop-logged : goal.invariant-loop-logged
invariant-loop-logged l = l.told ≡ flat_map (λ one. decided one.now.event)
    (take l.logged-index l.found)
