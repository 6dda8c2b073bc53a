use Rattle.std.proofs.Common.{◌≡◌, take, None}
use Rattle.std.specs.Prelude.{if◌then◌else◌}
use Rattle.std.specs.List.{filter_map}
use Rattle.pl_eval.specs.Known.{same_name}
use Rattle.pl_results.specs.Members.{combined_if_any}
use Rattle.pl_results.proofs.members.combined_named.Given as goal

abbrev pub invariant-loop-one : goal.invariant-loop-one
invariant-loop-one l = l.all ≡ combined_if_any
    (filter_map (λ one. if same_name l.name one.name then one.result else None)
    (take l.one-index l.members))
