use Rattle.std.proofs.lemmas.Result.{err_from_is_err_and}
use Rattle.pl_fields.proofs.Guards.{approval_misses}
use Rattle.pl_fields.proofs.checks.read_approval.Goals as goal

pub returns-in_err-approvers : goal.returns-in_err-approvers
returns-in_err-approvers c =
    let p = err_from_is_err_and c.from_residual.result c.from_residual.ensures.1 in
    rw (p.1, p.2) (approval_misses c.args.bytes.now c.in_err-approvers.field-0.0
    c.in_err-approvers.ensures)
