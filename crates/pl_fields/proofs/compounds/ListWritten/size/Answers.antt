use Rattle.pl_fields.proofs.Misses.{list_size}
use Rattle.pl_fields.proofs.compounds.ListWritten.size.Goals as goal

pub returns : goal.returns
returns g c = list_size g.T.Written.spelled g.T.Written.fits c.args.self.now
    c.as_slice-item-items.result.now c.loop-item.size c.loop-item.item-index
    c.loop-item.invariant c.loop-item-test.false c.as_slice-item-items.ensures
