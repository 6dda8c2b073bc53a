use Rattle.std.proofs.lemmas.Result.{err_from_is_err_and}
use Rattle.pl_fields.proofs.Ending.{superseded_misses}
use Rattle.pl_fields.proofs.rules.rule_behind.Goals as goal

pub returns-in_err-run-in-10 : goal.returns-in_err-run-in-10
returns-in_err-run-in-10 c =
    let p = err_from_is_err_and c.from_residual-in_err-run-in-10.result
    c.from_residual-in_err-run-in-10.ensures.1 in
    rw (p.1, p.2) (superseded_misses c.args.number c.args.bytes.now c.in_err-run-in-10.field-0.0
    c.in-10.is c.in_err-run-in-10.ensures)
