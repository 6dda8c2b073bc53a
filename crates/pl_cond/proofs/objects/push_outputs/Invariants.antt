use Rattle.std.proofs.Common.{◌≡◌, ◌++◌, map, take}
use Rattle.pl_cond.specs.Objects.{output_pair}
use Rattle.pl_cond.proofs.objects.push_outputs.Given as goal

abbrev pub invariant-loop-output : goal.invariant-loop-output
invariant-loop-output l = l.pairs ≡
    l.initial.pairs ++ map (output_pair l.here l.leg.prefix) (take l.output-index l.output-items)
