use Rattle.std.proofs.lemmas.Result.{err_from_is_err_and}
use Rattle.pl_keeper.proofs.Tables.{IsJobBody, IsJobKey, job_body, job_key, job_parts, misses}
use Rattle.pl_keeper.proofs.decoding.job_of.Goals as goal

pub returns-in_err-key : goal.returns-in_err-key
returns-in_err-key c =
    let p = err_from_is_err_and c.from_residual.result c.from_residual.ensures.1 in
    rw (p.1, p.2) (misses job_key IsJobKey job_body IsJobBody 8 c.args.row.now
    (job_parts c.args.row.now) c.in_err-key.field-0.0
    c.in_err-key.ensures.torn)
