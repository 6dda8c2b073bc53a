use Rattle.std.proofs.Common.{◌≡◌, find, drop}
use Rattle.pl_eval.specs.Known.{same_name}
use Rattle.pl_frame.proofs.members.parameter_named.Given as goal

abbrev pub invariant-loop-parameter : goal.invariant-loop-parameter
invariant-loop-parameter l =
    find (λ parameter. same_name l.name parameter.name) l.parameter-items
    ≡ find (λ parameter. same_name l.name parameter.name) (drop l.parameter-index l.parameter-items)
