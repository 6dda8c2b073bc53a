use Rattle.std.proofs.Common.{◌≡◌, find, drop}
use Rattle.pl_directives.specs.Strays.{strays}
use Rattle.pl_directives.proofs.straying.stray_among.Given as goal

abbrev pub invariant-loop-pair : goal.invariant-loop-pair
invariant-loop-pair l =
    find (λ pair. strays l.region l.called pair.key) l.pairs
    ≡ find (λ pair. strays l.region l.called pair.key) (drop l.pair-index l.pair-items)
