use Rattle.std.proofs.Common.{◌≡◌, take}
use Rattle.std.specs.List.{filter_map}
use Rattle.pl_results.specs.Parts.{stage_part_at}
use Rattle.pl_results.proofs.parts.stage_parts.Given as goal

abbrev pub invariant-loop-at : goal.invariant-loop-at
invariant-loop-at l =
    l.parts ≡ filter_map (stage_part_at l.plan l.view) (take l.at-index l.at-items)
