use Rattle.pl_log.specs.Keys.{seen}
use Rattle.pl_log.specs.declared.kept.Link.TheVariants.{First}
use Rattle.pl_log.proofs.Keeping.{number_within}
use Rattle.pl_log.proofs.log.Log.latest_of.Goals as goal

pub walk-requires-clause-leads : goal.walk-requires-clause-leads
walk-requires-clause-leads g c = rw c.as_slice.ensures.value (c.self.invariant.0.leads First)

pub walk-requires-clause-within : goal.walk-requires-clause-within
walk-requires-clause-within g c = rw c.number-from.ensures (rw c.as_slice.ensures.value
    (number_within g.T.Keyed.named g.T.Keyed.second c.self.inside.rows c.self.inside.second_rows
    c.self.inside.kept.items c.self.invariant.0 (seen c.args.key)))
