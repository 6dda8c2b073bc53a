use Rattle.std.proofs.Common.{◌≡◌, ℕ, List, drop, find}
use Rattle.pl_eval.specs.Known.{same_name}
use Rattle.pl_cond.proofs.paths.first_named.Given as goal

abbrev pub invariant-loop-output : goal.invariant-loop-output
invariant-loop-output l = find (λ output. same_name l.name output.0) l.outputs ≡
    find (λ output. same_name l.name output.0) (drop l.output-index l.outputs)
