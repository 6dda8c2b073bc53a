use Rattle.std.proofs.Common.{◌≡◌, ◌≤◌, ◌+◌, drop}
use Rattle.pl_facts.specs.Sizes.{counted, fact_size, total}
use Rattle.pl_facts.proofs.sizes.facts_size.Given as goal

abbrev pub invariant-loop-fact : goal.invariant-loop-fact
invariant-loop-fact l =
    (l.size ≤ 18446744073709551615) ×
    (counted (l.size + total fact_size (drop l.fact-index l.facts)) ≡
    counted (total fact_size l.facts))
