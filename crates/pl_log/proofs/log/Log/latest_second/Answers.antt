use Rattle.pl_log.specs.Keys.{second_seen}
use Rattle.pl_log.proofs.Keeping.{second_number_within}
use Rattle.pl_log.proofs.log.Log.latest_second.Goals as goal

pub latest_item-requires : goal.latest_item-requires
latest_item-requires g c = rw c.number-from.ensures (rw c.as_slice.ensures.value
    (second_number_within g.T.Keyed.named g.T.Keyed.second c.self.inside.rows
    c.self.inside.second_rows c.self.inside.kept.items c.self.invariant.0 (second_seen c.args.key)))
