use Rattle.pl_graph.proofs.Common.{arith, exact_unsigned, keys, rules, ◌≡◌}
use Rattle.std.proofs.lemmas.Cmp.{nat_cmp_total}
use Rattle.std.proofs.lemmas.Map.Keys.{IsStrictlyIncreasing-from_sorted}
use Rattle.std.proofs.lemmas.Map.Views.{btree_set_contains_iff}
use Rattle.pl_graph.proofs.transitive.ancestors.Goals as goal

pub returns : goal.returns
returns c =
    let found = rw c.as_slice.ensures at c.in_ok-found.ensures in
    let is : c.in_ok-collect.field-0.items ≡ keys c.in_ok-found.found = search rules in
    rw (c.from_vec.ensures, is) (record {
      ascending = IsStrictlyIncreasing-from_sorted _ c.iter.ensures.ordered;
      members = λ b.
          let key = btree_set_contains_iff nat_cmp_total exact_unsigned c.in_ok-found.found b in
          let all = found b in grind arith;
    })
