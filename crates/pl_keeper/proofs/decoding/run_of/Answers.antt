use Rattle.std.proofs.lemmas.Result.{err_from_is_err_and}
use Rattle.pl_fields.specs.Fields.{number}
use Rattle.pl_keeper.proofs.Tables.{IsRunBody, misses, run_body, run_parts}
use Rattle.pl_keeper.specs.WaysOfParts.{IsNumber}
use Rattle.pl_keeper.proofs.decoding.run_of.Goals as goal

pub returns-in_err-run : goal.returns-in_err-run
returns-in_err-run c =
    let p = err_from_is_err_and c.from_residual.result c.from_residual.ensures.1 in
    rw (p.1, p.2) (misses number IsNumber run_body IsRunBody 6 c.args.row.now
    (run_parts c.args.row.now) c.in_err-run.field-0.0
    c.in_err-run.ensures.torn)
