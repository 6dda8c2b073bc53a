use Rattle.std.proofs.Common.{◌≡◌, drop}
use Rattle.pl_results.specs.Parts.{in_order, with_outputs}
use Rattle.pl_cond.proofs.objects.by_name.Given as goal

abbrev pub invariant-loop-output : goal.invariant-loop-output
invariant-loop-output l =
    in_order l.outputs ≡ with_outputs l.kept.entries (drop l.output-index l.outputs)
