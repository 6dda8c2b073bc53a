use Rattle.std.proofs.Common.{◌≡◌, drop, find}
use Rattle.std.specs.List.{filter_map}
use Rattle.pl_eval.specs.Known.{same_name}
use Rattle.pl_results.specs.Parts.{group_at}
use Rattle.pl_results.proofs.parts.stage_group.Given as goal

abbrev pub invariant-loop-at : goal.invariant-loop-at
invariant-loop-at l =
    find (λ one. same_name l.name one.name) (filter_map (group_at l.plan l.view) l.at-items)
    ≡ find (λ one. same_name l.name one.name)
    (filter_map (group_at l.plan l.view) (drop l.at-index l.at-items))
