use Rattle.std.proofs.Common.{arith}
use Rattle.std.proofs.lemmas.Result.{err_from_is_err_and}
use Rattle.pl_fields.proofs.Ending.{argument_misses, argument_not}
use Rattle.pl_fields.proofs.rules.read_argument.Goals as goal

pub returns-in_err-job : goal.returns-in_err-job
returns-in_err-job c =
    let p = err_from_is_err_and c.from_residual.result c.from_residual.ensures.1 in
    rw (p.1, p.2) (argument_misses c.args.bytes.now c.in_err-job.field-0.0 c.in_err-job.ensures)

pub returns-in-Err : goal.returns-in-Err
returns-in-Err c =
    argument_not c.args.bytes.now c.in_ok-job.job c.in_ok-job.step c.in_ok-job.rest.now
    (record { does_fit = c.in_ok-job.ensures.does_fit; parts = c.in_ok-job.ensures.parts })
    (omega (arith, c.in-Err.ensures))
