use Rattle.std.proofs.Common.{◌≡◌, ℕ, List, take}
use Rattle.std.specs.Ordering.{nat_cmp}
use Rattle.std.specs.Cmp.Lexicographic.{slice_cmp}
use Rattle.std.specs.BTreeSet.{contains}
use Rattle.pl_line.specs.Trees.{has_key}
use Rattle.pl_line.proofs.keys.keys_of.Given as goal

abbrev pub invariant-loop-pair : goal.invariant-loop-pair
invariant-loop-pair l = (key : List ℕ) → contains (slice_cmp nat_cmp) l.keys key ≡
    has_key key (take l.pair-index l.pairs)
