use Rattle.std.proofs.lemmas.Result.{err_from_is_err_and}
use Rattle.pl_fields.specs.Checks.{IsFileKey, file_key}
use Rattle.pl_keeper.proofs.Tables.{IsRaw, file_parts, misses, raw}
use Rattle.pl_keeper.proofs.decoding.file_of.Goals as goal

pub returns-in_err-key : goal.returns-in_err-key
returns-in_err-key c =
    let p = err_from_is_err_and c.from_residual.result c.from_residual.ensures.1 in
    rw (p.1, p.2) (misses file_key IsFileKey raw IsRaw 1 c.args.row.now (file_parts c.args.row.now)
    c.in_err-key.field-0.0
    c.in_err-key.ensures.torn)
