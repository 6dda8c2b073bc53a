use Rattle.std.proofs.Common.{arith}
use Rattle.std.proofs.lemmas.Result.{err_from_is_err_and}
use Rattle.pl_fields.proofs.Misses.{items_misses}
use Rattle.pl_fields.proofs.compounds.read_items.Goals as goal

pub returns-in_err-item : goal.returns-in_err-item
returns-in_err-item g c =
    let p = err_from_is_err_and c.from_residual.result c.from_residual.ensures.1 in
    rw (p.1, p.2) (items_misses g.T.Written.spelled g.T.Written.fits g.met.T.Field.one_way
    c.args.count c.loop.items c.args.bytes.now
    c.loop.rest.now (omega (arith, c.loop.invariant.len, c.loop-test.true)) c.loop.invariant.each
    c.loop.invariant.parts c.in_err-item.field-0.0 c.in_err-item.ensures)
