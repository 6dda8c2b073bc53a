use Rattle.pl_log.specs.Keys.{second_seen}
use Rattle.pl_log.specs.declared.kept.Link.TheVariants.{Second}
use Rattle.pl_log.proofs.Keeping.{second_number_within}
use Rattle.pl_log.proofs.log.Log.latest_second_of.Goals as goal

pub walk-requires-clause-leads : goal.walk-requires-clause-leads
walk-requires-clause-leads g c = rw c.as_slice.ensures.value (c.self.invariant.0.leads Second)

pub walk-requires-clause-within : goal.walk-requires-clause-within
walk-requires-clause-within g c = rw c.number-from.ensures (rw c.as_slice.ensures.value
    (second_number_within g.T.Keyed.named g.T.Keyed.second c.self.inside.rows
    c.self.inside.second_rows c.self.inside.kept.items c.self.invariant.0 (second_seen c.args.key)))
