use Rattle.std.proofs.Common.{◌≡◌, drop, map}
use Rattle.pl_recursion.specs.Expanding.{entry_of, facet_of}
use Rattle.pl_directives.specs.Manners.{first_other}
use Rattle.pl_recursion.proofs.facets.first_other.Given as goal

abbrev pub invariant-loop-pair : goal.invariant-loop-pair
invariant-loop-pair l =
    first_other l.kind (map facet_of (map entry_of l.pairs))
    ≡ first_other l.kind (map facet_of (map entry_of (drop l.pair-index l.pair-items)))
