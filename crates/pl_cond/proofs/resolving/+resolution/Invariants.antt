use Rattle.std.proofs.Common.{◌≡◌, map, take}
use Rattle.pl_eval.specs.Means.{means}
use Rattle.pl_cond.specs.Contexts.{bare_in, known_in}
use Rattle.pl_cond.proofs.resolving.+resolution.Given as goal

abbrev pub invariant-resolve_all-loop-argument : goal.invariant-resolve_all-loop-argument
invariant-resolve_all-loop-argument l =
    map (means (bare_in l.context) l.context.here) l.new ≡
    map (means (known_in l.context l.variables) l.context.here)
    (take l.argument-index l.argument-items)
