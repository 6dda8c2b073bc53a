use Rattle.std.proofs.Common.{◌≡◌, [], drop}
use Rattle.pl_params.specs.Declaring.{item_param}
use Rattle.pl_params.specs.Steps.{in_turn}
use Rattle.pl_params.proofs.declaring.declare_items.Given as goal

abbrev pub invariant-loop-item : goal.invariant-loop-item
invariant-loop-item l = in_turn item_param [] l.items ≡ in_turn item_param l.declared
    (drop l.item-index l.item-items)
