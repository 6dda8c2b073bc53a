use Rattle.std.proofs.Common.{◌≡◌, [], drop}
use Rattle.pl_params.specs.Binding.{bound_param}
use Rattle.pl_params.specs.Steps.{in_turn}
use Rattle.pl_params.proofs.binding.bind_all.Given as goal

abbrev pub invariant-loop-param : goal.invariant-loop-param
invariant-loop-param l = in_turn (bound_param l.given) [] l.declared ≡ in_turn (bound_param l.given)
    l.all (drop l.param-index l.param-items)
