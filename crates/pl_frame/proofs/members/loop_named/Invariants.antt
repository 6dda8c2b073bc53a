use Rattle.std.proofs.Common.{◌≡◌, map, vec_len}
use Rattle.pl_frame.specs.Members.{loop_of}
use Rattle.pl_frame.proofs.members.loop_named.Given as goal

abbrev pub invariant-loop-innermost : goal.invariant-loop-innermost
invariant-loop-innermost l =
    loop_of l.fn.loops l.name ≡ loop_of (map (λ one. one.now) l.rest.items) l.name

abbrev pub decreases-loop-innermost : goal.decreases-loop-innermost
decreases-loop-innermost l = vec_len l.rest
