use Rattle.std.proofs.Common.{◌≡◌, ◌++◌}
use Rattle.std.specs.Prelude.{◌&&◌, codes, filter, not}
use Rattle.pl_base.specs.Texts.{is}
use Rattle.pl_expand.proofs.merging.template_sides.Given as goal

abbrev pub invariant-loop-pair : goal.invariant-loop-pair
invariant-loop-pair l =
    l.all
    ≡ l.fn.front
    ++ filter (λ pair. not (is pair.key (codes "variables") && l.has_variables)) l.yielded
