use Rattle.std.proofs.Common.{◌≡◌}
use Rattle.std.specs.List.{filter_map}
use Rattle.std.specs.Option.{option_copied}
use Rattle.pl_expand.specs.Merging.{root_side}
use Rattle.pl_expand.proofs.merging.root_sides.Given as goal

abbrev pub invariant-loop-pair : goal.invariant-loop-pair
invariant-loop-pair l =
    l.all ≡ filter_map (root_side (option_copied l.items) l.more) l.yielded
