use Rattle.std.proofs.lemmas.Result.{err_from_is_err_and}
use Rattle.pl_keeper.proofs.Tables.{IsAny, IsMetaBody, meta_body, meta_parts, misses, nothing}
use Rattle.pl_keeper.proofs.decoding.meta_of.Goals as goal

pub returns-in_err-moment : goal.returns-in_err-moment
returns-in_err-moment c =
    let p = err_from_is_err_and c.from_residual.result c.from_residual.ensures.1 in
    rw (p.1, p.2) (misses nothing IsAny meta_body IsMetaBody 0 c.args.row.now
    (meta_parts c.args.row.now) c.in_err-moment.field-0.0
    c.in_err-moment.ensures.torn)
