use Rattle.std.proofs.Common.{◌≡◌, [], drop}
use Rattle.pl_params.specs.Declaring.{pair_param}
use Rattle.pl_params.specs.Steps.{in_turn}
use Rattle.pl_params.proofs.declaring.declare_pairs.Given as goal

abbrev pub invariant-loop-pair : goal.invariant-loop-pair
invariant-loop-pair l = in_turn pair_param [] l.pairs ≡ in_turn pair_param l.declared
    (drop l.pair-index l.pair-items)
