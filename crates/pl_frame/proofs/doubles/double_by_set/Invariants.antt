use Rattle.std.proofs.Common.{◌≡◌, ℕ, List, [], map, take, drop}
use Rattle.std.specs.List.{list_any}
use Rattle.std.specs.Ordering.{nat_cmp}
use Rattle.std.specs.Cmp.Lexicographic.{slice_cmp}
use Rattle.std.specs.BTreeSet.{contains}
use Rattle.pl_base.specs.Texts.{is}
use Rattle.pl_frame.specs.Doubles.{double_in}
use Rattle.pl_frame.proofs.doubles.double_by_set.Given as goal

abbrev pub invariant-loop-pair : goal.invariant-loop-pair
invariant-loop-pair l = record {
  same : (key : List ℕ) →
      contains (slice_cmp nat_cmp) l.keys key
      ≡ list_any (is key) (map (λ pair. pair.key) (take l.pair-index l.pairs));
  walked :
      double_in [] l.pairs
      ≡ double_in (map (λ pair. pair.key) (take l.pair-index l.pairs)) (drop l.pair-index l.pairs);
}
