use Rattle.std.proofs.lemmas.Result.{err_from_is_err_and}
use Rattle.pl_fields.specs.Fields.{IsText, text}
use Rattle.pl_keeper.proofs.Tables.{IsPrincipalBody, misses, principal_body, principal_parts}
use Rattle.pl_keeper.proofs.decoding.principal_of.Goals as goal

pub returns-in_err-name : goal.returns-in_err-name
returns-in_err-name c =
    let p = err_from_is_err_and c.from_residual.result c.from_residual.ensures.1 in
    rw (p.1, p.2) (misses text IsText principal_body IsPrincipalBody 4 c.args.row.now
    (principal_parts c.args.row.now) c.in_err-name.field-0.0
    c.in_err-name.ensures.torn)
