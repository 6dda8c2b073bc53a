use Rattle.std.proofs.lemmas.Result.{err_from_is_err_and}
use Rattle.pl_fields.specs.Checks.{resource_key}
use Rattle.pl_keeper.proofs.Tables.{IsResourceBody, IsResourceKey, misses, resource_body}
use Rattle.pl_keeper.proofs.Tables.{resource_parts}
use Rattle.pl_keeper.proofs.decoding.resource_of.Goals as goal

pub returns-in_err-key : goal.returns-in_err-key
returns-in_err-key c =
    let p = err_from_is_err_and c.from_residual.result c.from_residual.ensures.1 in
    rw (p.1, p.2) (misses resource_key IsResourceKey resource_body IsResourceBody 3 c.args.row.now
    (resource_parts c.args.row.now) c.in_err-key.field-0.0
    c.in_err-key.ensures.torn)
