use Rattle.std.proofs.Common.{◌-◌, length, take, drop, ap, ◌∙◌}
use Rattle.pl_limits.specs.Places.{hash_from, mixed}
use Rattle.pl_limits.proofs.Fours.{four}
use Rattle.pl_limits.proofs.places.hash.Goals as goal

pub loop-left-preserved : goal.loop-left-preserved
loop-left-preserved c = record {
  told = ap (λ n. hash_from n (take (length c.loop-left.left.now - 4) (drop 4 c.loop-left.left.now)))
      (c.mixed-told.ensures.value ∙ ap (mixed c.loop-left.told) c.word.ensures.value)
      ∙ four c.loop-left.told c.loop-left.left.now c.in-len4-up.len_at_least
      ∙ c.loop-left.invariant.told;
  short = c.mixed-told.ensures.short;
}
