use Rattle.std.proofs.Common.{◌≡◌, fold, map, drop}
use Rattle.pl_frame.specs.Variables.{pair_variable, placed}
use Rattle.pl_frame.proofs.variables.with_pairs.Given as goal

abbrev pub invariant-loop-pair : goal.invariant-loop-pair
invariant-loop-pair l =
    fold placed l.initial.all.variables (map pair_variable l.pair-items)
    ≡ fold placed l.all.variables (map pair_variable (drop l.pair-index l.pair-items))
