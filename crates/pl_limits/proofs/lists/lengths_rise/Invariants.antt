use Rattle.std.proofs.Common.{◌≡◌, drop, IsUtf8}
use Rattle.pl_limits.specs.Limits.{by_length, rises}
use Rattle.pl_limits.proofs.lists.lengths_rise.Given as goal

abbrev pub invariant-loop-text : goal.invariant-loop-text
invariant-loop-text l = record {
  text : IsUtf8 l.last;
  rising : rises by_length l.fn.first l.fn.rest ≡
      rises by_length l.last (drop l.text-index l.fn.rest);
}
