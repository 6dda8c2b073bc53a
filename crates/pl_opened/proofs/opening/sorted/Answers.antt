use Rattle.std.proofs.Common.{rules}
use Rattle.std.proofs.lemmas.List.Sorted.{answers_always}
use Rattle.pl_facts.specs.declared.fact.Fact.{Fact}
use Rattle.pl_opened.proofs.opening.sorted.Goals as goal

pub returns : goal.returns
returns c =
    let keys = answers_always _ _ _ (λ f a r next called. search rules) in
    record {
      same = c.in_ok-sort_by_key.ensures.permutation;
      rise = c.in_ok-sort_by_key.ensures.sorted (λ (fact : Fact). fact.moment) keys;
      stay = c.in_ok-sort_by_key.ensures.stable (λ (fact : Fact). fact.moment) keys;
    }
