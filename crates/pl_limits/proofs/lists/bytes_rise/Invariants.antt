use Rattle.std.proofs.Common.{◌≡◌, drop, map, IsUtf8}
use Rattle.pl_limits.specs.Limits.{by_bytes, rises}
use Rattle.pl_limits.proofs.lists.bytes_rise.Given as goal

abbrev pub invariant-loop-text : goal.invariant-loop-text
invariant-loop-text l = record {
  text : IsUtf8 l.last;
  rising : rises by_bytes l.fn.first (map (λ text. text.now) l.fn.rest) ≡
      rises by_bytes l.last (map (λ text. text.now) (drop l.text-index l.fn.rest));
}
