use Rattle.std.proofs.Common.{◌≡◌, find, drop}
use Rattle.std.specs.Prelude.{not}
use Rattle.pl_calls.specs.Judging.{may_stand}
use Rattle.pl_calls.proofs.judging.stray.Given as goal

abbrev pub invariant-loop-pair : goal.invariant-loop-pair
invariant-loop-pair l =
    find (λ pair. not (may_stand l.form pair.key)) l.pairs
    ≡ find (λ pair. not (may_stand l.form pair.key)) (drop l.pair-index l.pair-items)
