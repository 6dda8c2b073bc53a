use Rattle.std.proofs.Common.{◌≡◌, map}
use Rattle.pl_frame.specs.Names.{pair_object}
use Rattle.pl_directives.proofs.asking.pair_objects.Given as goal

abbrev pub invariant-loop-pair : goal.invariant-loop-pair
invariant-loop-pair l = l.items ≡ map (pair_object l.frame l.place) l.yielded
