use Rattle.std.proofs.Common.{◌≡◌, take}
use Rattle.std.specs.List.{filter_map}
use Rattle.pl_results.specs.Parts.{group_at}
use Rattle.pl_results.proofs.parts.stage_groups.Given as goal

abbrev pub invariant-loop-at : goal.invariant-loop-at
invariant-loop-at l =
    l.groups ≡ filter_map (group_at l.plan l.view) (take l.at-index l.at-items)
