use Rattle.pl_log.specs.Keys.{seen}
use Rattle.pl_log.specs.declared.kept.Link.TheVariants.{First}
use Rattle.pl_log.proofs.Keeping.{number_within}
use Rattle.pl_log.proofs.log.Log.all_of.Goals as goal

pub walk_all-requires-clause-leads : goal.walk_all-requires-clause-leads
walk_all-requires-clause-leads g c = rw c.as_slice.ensures.value (c.self.invariant.0.leads First)

pub walk_all-requires-clause-within : goal.walk_all-requires-clause-within
walk_all-requires-clause-within g c = rw c.number-from.ensures (rw c.as_slice.ensures.value
    (number_within g.T.Keyed.named g.T.Keyed.second c.self.inside.rows c.self.inside.second_rows
    c.self.inside.kept.items c.self.invariant.0 (seen c.args.key)))
