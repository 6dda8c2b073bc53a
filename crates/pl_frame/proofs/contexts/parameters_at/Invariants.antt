use Rattle.std.proofs.Common.{◌≡◌, map, take}
use Rattle.pl_frame.specs.Names.{parameter_pair}
use Rattle.pl_frame.proofs.contexts.parameters_at.Given as goal

abbrev pub invariant-loop-parameter : goal.invariant-loop-parameter
invariant-loop-parameter l =
    l.pairs ≡ map (parameter_pair l.frame l.place) (take l.parameter-index l.parameter-items)
