use Rattle.pl_fields.proofs.Misses.{list_not_counted, list_reads}
use Rattle.pl_fields.proofs.compounds.ListField.read.Goals as goal

pub returns-in_default : goal.returns-in_default
returns-in_default g c = list_not_counted g.T.Written.spelled g.T.Written.fits c.args.bytes.now
    c.in_default.ensures

pub returns : goal.returns
returns g c = list_reads g.T.Written.spelled g.T.Written.fits _ c.in-Some.count c.args.bytes.now
    c.in-Some.rest.now c.in-Some.ensures.0
    c.in-Some.ensures.1 c.read_items.result c.read_items.ensures
