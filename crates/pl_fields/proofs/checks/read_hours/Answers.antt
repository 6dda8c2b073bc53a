use Rattle.std.proofs.lemmas.Result.{err_from_is_err_and}
use Rattle.pl_fields.proofs.Guards.{hours_misses}
use Rattle.pl_fields.proofs.checks.read_hours.Goals as goal

pub returns-in_err-days : goal.returns-in_err-days
returns-in_err-days c =
    let p = err_from_is_err_and c.from_residual.result c.from_residual.ensures.1 in
    rw (p.1, p.2) (hours_misses c.args.bytes.now c.in_err-days.field-0.0 c.in_err-days.ensures)
