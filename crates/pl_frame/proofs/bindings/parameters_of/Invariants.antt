use Rattle.std.proofs.Common.{◌≡◌, vec_len}
use Rattle.pl_frame.specs.Bindings.{parameters_of}
use Rattle.pl_frame.proofs.Bound.{left}
use Rattle.pl_frame.proofs.bindings.parameters_of.Given as goal

abbrev pub invariant-loop-one : goal.invariant-loop-one
invariant-loop-one l =
    parameters_of l.crossings l.declared l.fn.bound ≡ left l.crossings l.declared l.all l.rest.items

abbrev pub decreases-loop-one : goal.decreases-loop-one
decreases-loop-one l = vec_len l.rest
