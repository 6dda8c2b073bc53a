use Rattle.std.proofs.Common.{◌≡◌, find, drop}
use Rattle.pl_eval.specs.Known.{same_name}
use Rattle.pl_eval.proofs.look_ups.place_of.Given as goal

abbrev pub invariant-loop-index : goal.invariant-loop-index
invariant-loop-index l = find (λ pair. same_name l.name pair.key) l.pairs ≡
    find (λ pair. same_name l.name pair.key) (drop l.index l.pairs)
