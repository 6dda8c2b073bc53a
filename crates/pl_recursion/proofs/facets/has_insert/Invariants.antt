use Rattle.std.proofs.Common.{◌≡◌, drop, map}
use Rattle.std.specs.List.{list_any}
use Rattle.pl_recursion.specs.Expanding.{entry_of, facet_of}
use Rattle.pl_template.specs.Keys.{form_of_key}
use Rattle.pl_directives.specs.Manners.{is_insert}
use Rattle.pl_recursion.proofs.facets.has_insert.Given as goal

abbrev pub invariant-loop-pair : goal.invariant-loop-pair
invariant-loop-pair l =
    list_any (λ one. is_insert (form_of_key one.key)) (map facet_of (map entry_of l.pairs))
    ≡ list_any (λ one. is_insert (form_of_key one.key))
    (map facet_of (map entry_of (drop l.pair-index l.pair-items)))
