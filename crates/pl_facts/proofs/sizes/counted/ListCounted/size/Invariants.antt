use Rattle.std.proofs.Common.{◌≡◌, ◌≤◌, ◌+◌, drop}
use Rattle.pl_facts.specs.Sizes.{counted, total}
use Rattle.pl_facts.proofs.sizes.counted.ListCounted.size.Given as goal

abbrev pub invariant-loop-item : goal.invariant-loop-item
invariant-loop-item g l =
    (l.size ≤ 18446744073709551615) ×
    (counted (l.size + total g.T.Counted.bytes (drop l.item-index l.item-items)) ≡
    counted (total g.T.Counted.bytes l.item-items))
